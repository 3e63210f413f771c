-- What a caller of `read` knows of the steps that were kept: each is that step of the text's tree.
use Prim.Native.Nat.{ℕ, zero, suc, ◌+◌, ◌≤◌, ◌<◌}
use native.Mathlib.Omega.{arith}
use mathlib.Core.Path.{◌≡◌, refl, sym, ap, ◌∙◌, subst}
use mathlib.Core.List.{List, [], ◌∷◌, ◌++◌}
use lib.ListN.{length, take, drop, get_or, length-append, length-drop, get_or-append}
use lib.Seq.{drop-drop, take-append_seam}
use Rattle.meaning.specs.declared.Step.{Step}
use Rattle.meaning.specs.Names.{Name}
use Rattle.meaning.specs.Notation as notation
use Rattle.meaning.specs.Notation.{Path, path, After, finish, bracket, next, Hook, nothing, from, write, write_after, Named, NamedAfter, Follows, steps, list, list_after}
use Rattle.meaning.specs.Picks.{step_at}
use Rattle.draft.specs.Drafts.{blank_step}
use Rattle.path.specs.Stored.{size, stored, stored_after}
use Rattle.path.proofs.Sizes.{stored_long, cut_byte, cut_text, cut_path}
use Rattle.question.specs.Questions.{hook_number, question_of, kept}

-- The stored step x is the tree's step y: it lies in the text, its part of the text is the name, and it hangs from what y hangs from.
pub record StoredAs (t : List ℕ) (x : Step) (y : notation.Step) : Type 0 where
  pub within : x.start + x.length ≤ length t
  pub name : take x.length (drop x.start t) ≡ y.name
  pub hangs : x.hangs ≡ hook_number y.hook
  pub proper : Name y.name

-- Stored steps are the tree's steps, one by one.
data AllStored (t : List ℕ) : List Step → List notation.Step → Type 0 where
  none : AllStored t [] []
  also : {x : Step} {y : notation.Step} {xs : List Step} {ys : List notation.Step} → StoredAs t x y → AllStored t xs ys → AllStored t (x ∷ xs) (y ∷ ys)

-- Two lists one behind the other.
stored_append : {t : List ℕ} {xs us : List Step} {ys vs : List notation.Step} → AllStored t xs ys → AllStored t us vs → AllStored t (xs ++ us) (ys ++ vs)
stored_append none b = b
stored_append (also s a) b = also s (stored_append a b)

-- The step at each place of the lists.
stored_at : {t : List ℕ} {xs : List Step} {ys : List notation.Step} → AllStored t xs ys → (i : ℕ) (d : Step) (e : notation.Step) → i < length xs → StoredAs t (get_or xs i d) (get_or ys i e)
stored_at none i d e h = absurd (omega arith)
stored_at (also s a) zero d e h = s
stored_at (also s a) (suc i) d e h = stored_at a i d e (omega arith)

mutual
  unfolding write list stored

  -- The stored steps of a path that stands at `at` are the path's steps.
  path_stored : (t : List ℕ) (p : Path) (hook : Hook) (k at : ℕ) (s : List ℕ) → Named p → drop at t ≡ write p s → AllStored t (stored p (hook_number hook) k at) (list p hook k)
  path_stored t (path n a) hook k at s h e =
      let behind : drop (at + 2) t ≡ n ++ write_after a s = sym (drop-drop 2 at t) ∙ ap (drop 2) e in
      let first : StoredAs t (record { start = at + 2; length = length n; hangs = hook_number hook }) (record { name = n; hook = hook }) = record {
        within = omega (arith, length-drop at t, ap length e, length-append n (write_after a s));
        name = ap (take (length n)) behind ∙ take-append_seam n (write_after a s);
        hangs = refl;
        proper = h.0;
      } in
      also first (after_stored t a k (k + 1) (at + 2 + length n) s h.1 (cut_text t (at + 2) n (write_after a s) behind))

  -- The same of what follows a name.
  after_stored : (t : List ℕ) (a : After) (me k at : ℕ) (s : List ℕ) → NamedAfter a → drop at t ≡ write_after a s → AllStored t (stored_after a me k at) (list_after a me k)
  after_stored t finish me k at s h e = none
  after_stored t (bracket p a) me k at s h e =
      let tail : List ℕ = 93 ∷ write_after a s in
      let inside : drop (at + 1) t ≡ write p tail = cut_byte t at e in
      let behind : drop (at + 1 + size p + 1) t ≡ write_after a s = cut_byte t (at + 1 + size p) (cut_path t (at + 1) p tail inside) in
      stored_append (path_stored t p (from me) k (at + 1) tail h.0 inside) (after_stored t a me (k + steps p) (at + 1 + size p + 1) s h.1 behind)
  after_stored t (next p) me k at s h e = path_stored t p (from me) k at s h e

-- Each step of the question of a text's tree is that step of the tree.
pub stored_step : {text : List ℕ} (f : Follows text) (s : ℕ) → s < steps f.tree → StoredAs text (kept (question_of f.tree) s) (step_at f.tree s)
stored_step {text} f s h =
    let xs : List Step = stored f.tree (hook_number nothing) 0 0 in
    let short : s < length xs = omega (arith, stored_long f.tree (hook_number nothing) 0 0) in
    let here = stored_at (path_stored text f.tree nothing 0 0 [] f.named (sym f.written)) s blank_step (record { name = []; hook = nothing }) short in
    subst (λ (x : Step). StoredAs text x (step_at f.tree s)) (sym (get_or-append xs _ blank_step s short)) here
