-- The outcomes of reading, each by what was found of the text.
use Prim.Native.Nat.{ℕ, ◌≤◌, ◌<◌}
use native.Mathlib.Omega.{arith}
use mathlib.Core.Path.{◌≡◌, ap}
use mathlib.Core.Logic.{◌⊎◌, inl, inr}
use mathlib.Core.List.{List}
use lib.ListN.{length}
use Rattle.std.specs.Prelude.{Result, Ok, Err, IsErrAnd}
use Rattle.meaning.specs.declared.Question.{Question}
use Rattle.meaning.specs.declared.refusal.Refusal.{Refusal}
use Rattle.meaning.specs.Limits.{most_text, most_steps, most_depth}
use Rattle.meaning.specs.Notation.{Follows, steps, depth, TooLong, NotFollowing, TooLarge}
use Rattle.meaning.specs.Numbers.{number_of}
use Rattle.meaning.proofs.Laws.Notation.{one_tree}
use Rattle.draft.specs.declared.Draft.{Draft}
use Rattle.question.specs.Promise.{ReadAs, refused, read}
use Rattle.question.proofs.Texts.{HoldsTree}

-- The text t, and a refusal e.
module _ {t : List ℕ} {e : Refusal} where
  -- A text of over 1,024 bytes is refused by 7.
  pub over_long : TooLong t → number_of e ≡ 7 → ReadAs t (Err e)
  over_long h n = refused (inl (h, n))

  -- One that is not so long and that no tree writes is refused by 8.
  pub no_tree : length t ≤ most_text → NotFollowing t → number_of e ≡ 8 → ReadAs t (Err e)
  no_tree s f n = refused (inr (λ h. omega arith, inl (f, n)))

  -- One that a tree writes which is too large is refused by 9.
  pub over_large : length t ≤ most_text → (f : Follows t) → (most_steps < steps f.tree) ⊎ (most_depth < depth f.tree) → number_of e ≡ 9 → ReadAs t (Err e)
  over_large s f l n = refused (inr (λ h. omega arith, inr (λ no. no f, inl ((f, l), n))))

-- A refusal that `?` hands on is the one that it was given.
pub passed_on : {t : List ℕ} {e : Refusal} (r : Result Question Refusal) → IsErrAnd r (λ f. f ≡ e) → ReadAs t (Err e) → ReadAs t r
passed_on (Ok q) h y = absurd h
passed_on (Err f) h y = rw h y

-- A text is not too large whose tree has at most 32 steps and brackets at most 8 deep.
small : {t : List ℕ} (f : Follows t) → steps f.tree ≤ most_steps → depth f.tree ≤ most_depth → TooLarge t → ⊥
small f s d (g, inl h) = omega (arith, ap steps (one_tree f g))
small f s d (g, inr h) = omega (arith, ap depth (one_tree f g))

-- Any other text is read: the draft holds the question of its tree.
pub as_read : {t : List ℕ} {q : Draft} {count returned : ℕ} → length t ≤ most_text → (h : HoldsTree t q) → q.count ≤ most_steps → q.deepest ≤ most_depth → count ≡ q.count → returned ≡ q.last → ReadAs t (Ok (record { steps = q.steps; count = count; returned = returned }))
as_read {t} {q} s h c d many last =
    let f = h.writes in
    read (λ l. omega arith, (λ n. n f, (small f (omega (arith, h.count)) (omega (arith, h.deepest)), tt))) f (rw (many, last, h.kept c, h.count, h.last))
