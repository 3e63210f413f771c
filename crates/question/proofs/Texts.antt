-- The whole text: a path from its first byte to its end is a tree that writes it, and what was read is the question of that tree.
use Prim.Native.Nat.{ℕ, ◌+◌, ◌-◌, ◌≤◌, ◌<◌, max}
use native.Mathlib.Omega.{arith}
use mathlib.Core.Path.{◌≡◌, refl, sym, ap, ap₂, ◌∙◌, subst}
use mathlib.Core.List.{List, [], ◌++◌}
use lib.ListN.{length, drop, replicate, length-append, length-drop, length-replicate, drop_of_length-le}
use lib.Seq.{sets, sets-eq}
use Rattle.std.specs.Prelude.{Option, None, Result, Ok, Err}
use Rattle.std.specs.Result.{result_or}
use Rattle.std.proofs.lemmas.List.{drop-replicate}
use Rattle.meaning.specs.declared.Step.{Step}
use Rattle.meaning.specs.declared.refusal.Refusal.{Refusal}
use Rattle.meaning.specs.Limits.{most_text, most_steps}
use Rattle.meaning.specs.Notation.{nothing, write, Follows, steps, depth, last_step, returned_step, NotFollowing}
use Rattle.draft.specs.declared.Broken.{Broken}
use Rattle.draft.specs.declared.Draft.{Draft}
use Rattle.draft.specs.Drafts.{blank_step, filled_up, fresh, grown}
use Rattle.draft.specs.Steps.{MayRead}
use Rattle.path.specs.Stored.{size, stored}
use Rattle.path.specs.Reach.{walked, ReachPath, PathRead, whole, torn}
use Rattle.path.proofs.Sizes.{write_before, stored_long, cut_path}
use Rattle.path.proofs.Reaching.{one_path}
use Rattle.question.specs.Questions.{hook_number}

-- Steps put into blank entries, of which there are enough, have the blank ones behind them that are left.
sets_blank : (m : ℕ) (xs : List Step) → length xs ≤ m → sets (replicate m blank_step) 0 xs ≡ xs ++ replicate (m - length xs) blank_step
sets_blank m xs h =
    let same : 0 + length xs ≡ length xs = omega arith in
    sets-eq xs (replicate m blank_step) 0 (omega (arith, length-replicate m blank_step)) ∙ ap (λ (l : List Step). xs ++ l) (ap (λ (k : ℕ). drop k (replicate m blank_step)) same ∙ drop-replicate (length xs) m blank_step)

-- The draft before the first byte has no step.
fresh_count : fresh.count ≡ 0
unfolding fresh
fresh_count = refl

-- It stands at the first byte.
fresh_at : fresh.at ≡ 0
unfolding fresh
fresh_at = refl

-- It has gone into no bracket.
fresh_deepest : fresh.deepest ≡ 0
unfolding fresh
fresh_deepest = refl

-- Steps put into its entries.
fresh_sets : (xs : List Step) → length xs ≤ most_steps → sets fresh.steps 0 xs ≡ filled_up xs
unfolding fresh
fresh_sets xs h = sets_blank most_steps xs h

-- It is ready for a first step that hangs from nothing.
pub fresh_ready : {t : List ℕ} {q : Draft} → q ≡ fresh → length t ≤ most_text → MayRead t None 0 q
unfolding fresh
fresh_ready {t} {q} e h = subst (λ (x : Draft). MayRead t None 0 x) (sym e) (record {
  short = h;
  room = refl;
  within = omega arith;
  few = omega arith;
  shallow = omega arith;
  narrow = λ k. tt;
})

-- The whole text was read: a tree writes it, and the draft holds what is known of the tree.
pub record HoldsTree (t : List ℕ) (q : Draft) : Type 0 where
  pub writes : Follows t
  pub count : q.count ≡ steps writes.tree
  pub deepest : q.deepest ≡ depth writes.tree
  pub last : q.last ≡ returned_step writes.tree
  pub kept : q.count ≤ most_steps → q.steps ≡ filled_up (stored writes.tree (hook_number nothing) 0 0)

-- The greater of 0 and a number is the number.
max_zero : (a d : ℕ) → a ≡ 0 → max a (0 + d) ≡ d
max_zero a d e = omega arith

-- A path that begins within the text ends within it.
path_within : {t : List ℕ} {hang : Option ℕ} {d : ℕ} {q r : Draft} → ReachPath t hang d q r → q.at ≤ length t → r.at ≤ length t
unfolding grown
path_within {t} {hang} {d} {q} {r} p h =
    let place : r.at ≡ q.at + size p.tree = ap (λ (x : Draft). x.at) p.gives in
    let long = ap length (p.text ∙ write_before p.tree (drop r.at t)) in
    omega (arith, long, length-append (write p.tree []) (drop r.at t), length-drop q.at t, length-drop r.at t)

-- A path that ends at the text's end is the whole text.
path_held : {t : List ℕ} {q : Draft} → ReachPath t None 0 fresh q → length t ≤ q.at → HoldsTree t q
unfolding grown
path_held {t} {q} r h =
    let p = r.tree in
    let w = r.gives in
    let xs : List Step = stored p None 0 0 in
    let long : length xs ≡ steps p = stored_long p None 0 0 in
    let same : stored p None fresh.count fresh.at ≡ xs = ap₂ (stored p None) fresh_count fresh_at in
    let many : q.count ≡ steps p = ap (λ (x : Draft). x.count) w ∙ ap₂ (λ (c : ℕ) (l : List Step). c + length l) fresh_count same ∙ omega arith in
    record {
      writes = record {
        tree = p;
        named = r.named;
        written = ap (write p) (sym (drop_of_length-le t h)) ∙ sym r.text ∙ ap (λ (j : ℕ). drop j t) fresh_at;
      };
      count = many;
      deepest = ap (λ (x : Draft). x.deepest) w ∙ max_zero fresh.deepest (depth p) fresh_deepest;
      last = ap (λ (x : Draft). x.last) w ∙ ap (last_step p) fresh_count;
      kept = λ k. ap (λ (x : Draft). x.steps) w ∙ ap₂ (sets fresh.steps) fresh_count same ∙ fresh_sets xs (omega arith);
    }

-- Where a tree writes the text, a path ends at its end.
parsed : {t : List ℕ} → Follows t → (q : Draft) × (ReachPath t None 0 fresh q × (q.at ≡ length t))
unfolding grown
parsed {t} f =
    let q : Draft = walked fresh None 0 f.tree in
    let end : drop (fresh.at + size f.tree) t ≡ [] = cut_path t fresh.at f.tree [] (ap (λ (j : ℕ). drop j t) fresh_at ∙ sym f.written) in
    (q, (record { tree = f.tree; named = f.named; text = ap (λ (j : ℕ). drop j t) fresh_at ∙ sym f.written ∙ ap (write f.tree) (sym end); halts = rw end tt; gives = refl }, omega (arith, ap length f.written, fresh_at)))

-- What reading a path hands on where a refusal stands in for its error: the draft where that succeeds.
pub handed : {t : List ℕ} {q₀ q : Draft} (e : Refusal) (o : Result Draft Broken) → ◌≡◌ {A = Result Draft Refusal} (Ok q) (result_or o (Err e)) → PathRead t None 0 q₀ o → PathRead t None 0 q₀ (Ok q)
handed {t} {q₀} {q} e (Ok u) s r = let same : u ≡ q = cc in subst (λ (x : Draft). PathRead t None 0 q₀ (Ok x)) same r
handed e (Err b) s r = absurd cc

-- Nothing, and the error is that refusal, where it fails.
pub handed_none : {t : List ℕ} {q₀ : Draft} {d : Refusal} (e : Refusal) (o : Result Draft Broken) → ◌≡◌ {A = Result Draft Refusal} (Err d) (result_or o (Err e)) → PathRead t None 0 q₀ o → PathRead t None 0 q₀ (Err (record {})) × (d ≡ e)
handed_none e (Ok u) s r = absurd cc
handed_none e (Err b) s r = (r, cc)

-- What reading a path says of the text t, from the draft before its first byte on, where it hands on the draft q.
module _ {t : List ℕ} {q₀ q : Draft} (w : q₀ ≡ fresh) (r : PathRead t None 0 q₀ (Ok q)) where
  -- A path stands there.
  some_path : ReachPath t None 0 fresh q
  some_path = elim (subst (λ (x : Draft). PathRead t None 0 x (Ok q)) w r) [ whole y ↦ y ]

  -- It ends within the text.
  pub some_within : q.at ≤ length t
  some_within = path_within some_path (omega (arith, fresh_at))

  -- No tree writes a text that goes on behind the path.
  pub rest_follows : q.at < length t → NotFollowing t
  rest_follows h f = omega (arith, ap (λ (x : Draft). x.at) (one_path t some_path (parsed f).1.0), (parsed f).1.1)

  -- A path that ends at the text's end is the whole text.
  pub all_held : length t ≤ q.at → HoldsTree t q
  all_held h = path_held some_path h

-- Where it hands on none, no tree writes the text.
pub broken_follows : {t : List ℕ} {q₀ : Draft} {b : Broken} → q₀ ≡ fresh → PathRead t None 0 q₀ (Err b) → NotFollowing t
broken_follows {t} {b = b} w r f = elim (subst (λ (x : Draft). PathRead t None 0 x (Err b)) w r) [ torn n ↦ n _ (parsed f).1.0 ]
