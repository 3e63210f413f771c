-- Drafts that grow: steps put in a part at a time are put in at once.
use Prim.Native.Nat.{ℕ, suc, ◌+◌, ◌≤◌, max}
use native.Mathlib.Omega.{arith}
use mathlib.Core.Path.{◌≡◌, refl, sym, ap, ap₂, ◌∙◌}
use mathlib.Core.List.{List, [], ◌∷◌, ◌++◌}
use lib.ListN.{length, set, length-append}
use lib.Seq.{sets}
use Rattle.std.specs.Prelude.{Option, Some}
use Rattle.meaning.specs.declared.Step.{Step}
use Rattle.meaning.specs.Notation.{Path, path, After, bracket, steps, depth, depth_after, last_step, last_after}
use Rattle.draft.specs.declared.Draft.{Draft}
use Rattle.draft.specs.Drafts.{moved, grown, step_of, stepped}
use Rattle.path.specs.Stored.{size, size_after, stored, stored_after}
use Rattle.path.specs.Reach.{followed, walked}
use Rattle.path.proofs.Sizes.{size_path, size_bracket, stored_long}

-- Steps put in behind others.
sets_append : (xs ys l : List Step) (i : ℕ) → sets l i (xs ++ ys) ≡ sets (sets l i xs) (i + length xs) ys
sets_append [] ys l i = ap (λ (k : ℕ). sets l k ys) (omega arith)
sets_append (x ∷ xs) ys l i = sets_append xs ys (set l i x) (suc i) ∙ ap (λ (k : ℕ). sets (sets (set l i x) (suc i) xs) k ys) (omega arith)

-- A draft whose fields are equal to those of a grown one is that one.
as_grown : (q : Draft) (xs : List Step) (d at last : ℕ) {l : List Step} {c e : ℕ} → l ≡ sets q.steps q.count xs → c ≡ q.count + length xs → e ≡ max q.deepest d → record { steps = l; count = c; deepest = e; at = at; last = last } ≡ grown q xs d at last
unfolding grown
as_grown q xs d at last s c e = rw (s, c, e)

-- A draft that has grown to an equal depth and place is equal.
regrown : (q : Draft) (xs : List Step) {d e at at' : ℕ} (last : ℕ) → d ≡ e → at ≡ at' → grown q xs d at last ≡ grown q xs e at' last
regrown q xs last d a = rw (d, a)

-- A draft that has reached depth d is grown by nothing.
pub grown_none : (q : Draft) (d : ℕ) → d ≤ q.deepest → q ≡ grown q [] (d + 0) (q.at + 0) q.last
grown_none q d h = as_grown q [] d q.at q.last refl (omega arith) (omega arith) ∙ regrown q [] q.last (omega arith) (omega arith)

-- The greatest of three, by two ways.
max_max : (a b c : ℕ) → max (max a b) c ≡ max a (max b c)
max_max a b c = omega arith

-- A draft that has grown twice has grown once by both.
pub grown_twice : (q : Draft) (xs ys : List Step) (d e at last at' last' : ℕ) → grown (grown q xs d at last) ys e at' last' ≡ grown q (xs ++ ys) (max d e) at' last'
unfolding grown
grown_twice q xs ys d e at last at' last' = as_grown q (xs ++ ys) (max d e) at' last' (sym (sets_append xs ys q.steps q.count)) (omega (arith, length-append xs ys)) (max_max q.deepest d e)

-- The depth of a path whose first step is d deep.
deep_path : (d a : ℕ) → max d (d + a) ≡ d + a
deep_path d a = omega arith

-- The depth of a bracket and what follows it.
deep_bracket : (d i a : ℕ) → max (d + 1 + i) (d + a) ≡ d + max (1 + i) a
deep_bracket d i a = omega arith

-- A path's first step, and then what follows its name, make the path.
pub step_then : (q : Draft) (hang : Option ℕ) (d : ℕ) (n : List ℕ) (a : After) → followed (stepped q hang d n) d a ≡ walked q hang d (path n a)
unfolding grown stored depth last_step
step_then q hang d n a =
    let e : ℕ = q.at + 2 + length n in
    let ys : List Step = stored_after a q.count (q.count + 1) e in
    grown_twice q (step_of q.at n hang ∷ []) ys d (d + depth_after a) e q.count (e + size_after a) (last_after a q.count (q.count + 1))
    ∙ regrown q (step_of q.at n hang ∷ ys) (last_after a q.count (q.count + 1)) (deep_path d (depth_after a)) (omega (arith, size_path n a))

-- A path in a bracket, and then what follows the bracket, make what follows the name before the bracket.
pub bracket_then : (q i : Draft) (d : ℕ) (p : Path) (a : After) → i ≡ walked (moved q (q.at + 1) q.last) (Some q.last) (d + 1) p → followed (moved i (i.at + 1) q.last) d a ≡ followed q d (bracket p a)
unfolding grown moved stored depth last_step
bracket_then q i d p a w =
    let me : ℕ = q.last in
    let k : ℕ = q.count + steps p in
    let e : ℕ = q.at + 1 + size p in
    let xs : List Step = stored p (Some me) q.count (q.at + 1) in
    let ys : List Step = stored_after a me k (e + 1) in
    let many : i.count ≡ k = ap (λ (x : Draft). x.count) w ∙ ap (λ (j : ℕ). q.count + j) (stored_long p (Some me) q.count (q.at + 1)) in
    let place : i.at ≡ e = ap (λ (x : Draft). x.at) w in
    ap₂ (λ (c j : ℕ). grown i (stored_after a me c (j + 1)) (d + depth_after a) (j + 1 + size_after a) (last_after a me c)) many place
    ∙ ap (λ (x : Draft). grown x ys (d + depth_after a) (e + 1 + size_after a) (last_after a me k)) w
    ∙ grown_twice q xs ys (d + 1 + depth p) (d + depth_after a) e (last_step p q.count) (e + 1 + size_after a) (last_after a me k)
    ∙ regrown q (xs ++ ys) (last_after a me k) (deep_bracket d (depth p) (depth_after a)) (omega (arith, size_bracket p a))
