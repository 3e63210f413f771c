-- How many labels are left: what falls with each label that is handed out.
use Prim.Native.Nat.{ℕ, zero, suc, ◌+◌, ◌-◌, ◌≤◌, ◌<◌}
use native.Mathlib.Nat.{eq-or-lt_of_le, ne_of_lt, le_of_suc-le-suc}
use native.Mathlib.Omega.{arith}
use mathlib.Core.Path.{◌≡◌, refl, sym}
use mathlib.Core.Logic.{◌⊎◌, inl, inr}
use Rattle.order.specs.Walk.{Moved}

-- How many labels of the first k lists are left past the cursors.
unfoldable pub left : (ℕ → ℕ) → (ℕ → ℕ) → ℕ → ℕ
left count pos zero = 0
left count pos (suc k) = left count pos k + (count k - pos k)

-- A list behind the first k leaves as many when its cursor moves.
left_out : (count pos pos' : ℕ → ℕ) (r : ℕ) → Moved pos pos' r → (k : ℕ) → k ≤ r → left count pos' k ≡ left count pos k
unfolding left
left_out count pos pos' r moved zero l = refl
left_out count pos pos' r moved (suc k) l = simp (left_out count pos pos' r moved k (omega arith), moved.other k (ne_of_lt l))

-- A cursor in range that moves on leaves less.
pub left_falls : (count pos pos' : ℕ → ℕ) (r : ℕ) → Moved pos pos' r → pos r < count r → (k : ℕ) → r < k → left count pos' k < left count pos k
unfolding left
left_falls count pos pos' r moved room zero l = absurd (omega arith)
left_falls count pos pos' r moved room (suc k) l = go (eq-or-lt_of_le (le_of_suc-le-suc l)) (left_falls count pos pos' r moved room k)
  where
    go : (r ≡ k) ⊎ (r < k) → (r < k → left count pos' k < left count pos k) → left count pos' k + (count k - pos' k) < left count pos k + (count k - pos k)
    go (inr h) ih = omega (arith, ih h, moved.other k (λ e. ne_of_lt h (sym e)))
    go (inl e) ih = rw (← e) (omega (arith, left_out count pos pos' r moved r (omega arith), moved.here))
