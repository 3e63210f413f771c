-- The steps of a question: how many there are, which one is returned, and that each hangs from an earlier one.
use Prim.Native.Nat.{ℕ, zero, suc, ◌+◌, ◌≤◌, ◌<◌}
use mathlib.Core.Path.{◌≡◌, refl, ap₂, ◌∙◌}
use mathlib.Core.List.{List, [], ◌∷◌, ◌++◌}
use native.Mathlib.Omega.{arith}
use lib.ListN.{length, get_or, length-append}
use Rattle.meaning.specs.Notation.{Path, path, After, finish, bracket, next, Hook, nothing, from, Step, steps, steps_after, list, list_after, step_list, last_step, last_after, returned_step}
use Rattle.meaning.specs.Picks.{step_at}

mutual
  unfolding steps list

  -- The list of a path's steps is as long as the path has steps, whatever the first one's number and hook.
  pub list_long : (p : Path) (h : Hook) (k : ℕ) → length (list p h k) ≡ steps p
  list_long (path n a) h k = omega (arith, list_after_long a k (k + 1))

  -- The same of what follows a name.
  pub list_after_long : (a : After) (me k : ℕ) → length (list_after a me k) ≡ steps_after a
  list_after_long finish me k = refl
  list_after_long (bracket p a) me k = length-append (list p _ k) (list_after a _ (k + steps p)) ∙ ap₂ ◌+◌ (list_long p _ k) (list_after_long a _ (k + steps p))
  list_after_long (next p) me k = list_long p _ k

-- A question's list of steps is as long as the question has steps, so that `step_at` gives a step of the list for each number below it.
pub steps_listed : (p : Path) → length (step_list p) ≡ steps p
steps_listed p = list_long p nothing 0

-- A question has at least one step.
pub steps_some : (p : Path) → 1 ≤ steps p
unfolding steps
steps_some (path n a) = omega arith

mutual
  unfolding steps last_step

  -- The last step outside all brackets comes before the number that follows the path's last step.
  pub last_lt : (p : Path) (k : ℕ) → last_step p k < k + steps p
  last_lt (path n a) k = omega (arith, last_after_lt a k (k + 1) (omega arith))

  -- The same of what follows the name of step `me`.
  pub last_after_lt : (a : After) (me k : ℕ) → me < k → last_after a me k < k + steps_after a
  last_after_lt finish me k h = omega arith
  last_after_lt (bracket p a) me k h = further (last_after_lt a _ (k + steps p) (omega (arith, last_lt p k)))
    where
      further : {n : ℕ} → n < k + steps p + steps_after a → n < k + (steps p + steps_after a)
      further l = omega arith
  last_after_lt (next p) me k h = last_lt p k

-- The returned step is one of the question's steps.
pub returned_lt : (p : Path) → returned_step p < steps p
returned_lt p = omega (arith, last_lt p 0)

-- The hook is nothing or a step before number k: if it is step u, then u is below k.
abbrev Before : ℕ → Hook → Type 0
Before k h = (u : ℕ) → h ≡ from u → u < k

-- What `step_at` gives past the list's end.
abbrev blank : Step
blank = record { name = []; hook = nothing }

-- In a list of steps of which the first has number k, each hangs from nothing or from a step before it.
abbrev Upward : ℕ → List Step → Type 0
Upward k xs = (i : ℕ) → Before (k + i) (get_or xs i blank).hook

-- What hangs from nothing is as asked, for there is no such u.
nothing_before : (k : ℕ) → Before k nothing
nothing_before k u e = let z : ◌≡◌ {A = ℕ} 0 1 = cc in absurd (omega arith)

-- What hangs from an earlier step is as asked.
from_before : (me k : ℕ) → me < k → Before k (from me)
from_before me k h u e = let z : me ≡ u = cc in omega arith

-- A step in front of such a list, which itself hangs from nothing or from before, makes such a list.
upward_cons : (k : ℕ) (x : Step) (xs : List Step) → Before k x.hook → Upward (k + 1) xs → Upward k (x ∷ xs)
upward_cons k x xs h r zero u e = omega (arith, h u e)
upward_cons k x xs h r (suc i) u e = omega (arith, r i u e)

-- Two such lists, of which the second's numbers go on where the first's end, make such a list.
upward_append : (k : ℕ) (xs ys : List Step) → Upward k xs → Upward (k + length xs) ys → Upward k (xs ++ ys)
upward_append k [] ys f g i u e = omega (arith, g i u e)
upward_append k (x ∷ xs) ys f g zero u e = f zero u e
upward_append k (x ∷ xs) ys f g (suc i) u e = omega (arith, upward_append (k + 1) xs ys (λ j v d. omega (arith, f (suc j) v d)) (λ j v d. omega (arith, g j v d)) i u e)

mutual
  unfolding steps list

  -- If a path's first step hangs from nothing or from before, every step of the path does.
  list_upward : (p : Path) (h : Hook) (k : ℕ) → Before k h → Upward k (list p h k)
  list_upward (path n a) h k b = upward_cons k (record { name = n; hook = h }) (list_after a k (k + 1)) b (list_after_upward a k (k + 1) (omega arith))

  -- The steps behind the name of step `me` do.
  list_after_upward : (a : After) (me k : ℕ) → me < k → Upward k (list_after a me k)
  list_after_upward finish me k h = λ i. nothing_before (k + i)
  list_after_upward (bracket p a) me k h = upward_append k (list p _ k) (list_after a _ (k + steps p)) (list_upward p _ k (from_before _ k (omega arith))) (rw list_long (list_after_upward a _ (k + steps p) (omega (arith, steps_some p))))
  list_after_upward (next p) me k h = list_upward p _ k (from_before _ k (omega arith))

-- The first step of a question hangs from nothing.
pub hook_first : (p : Path) → (step_at p 0).hook ≡ nothing
unfolding list
hook_first (path n a) = refl

-- A step hangs from an earlier one, so that a walk from hook to hook ends.
pub hook_upward : (p : Path) (s u : ℕ) → s < steps p → (step_at p s).hook ≡ from u → u < s
hook_upward p s u h e = omega (arith, list_upward p nothing 0 (nothing_before 0) s u e)
