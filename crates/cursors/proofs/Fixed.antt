-- The promise of settling fixes the answer and, where there is a pick, every step's cursor.
use Prim.Native.Nat.{ℕ, ◌<◌}
use native.Mathlib.Omega.{arith}
use mathlib.Core.Path.{◌≡◌, refl, sym}
use mathlib.Core.Bool.{Bool, true, true≢false}
use mathlib.Core.List.{List}
use Rattle.meaning.specs.Bytes.{at}
use Rattle.meaning.specs.Picks.{Asked}
use Rattle.cursors.specs.Cursors.{LeastPick, Settled, found, ended}

-- The cursors of two least picks are equal at every step.
least_one : {a : Asked} {low p q : ℕ → ℕ} → LeastPick a low p → LeastPick a low q → (s : ℕ) → s < a.steps → p s ≡ q s
least_one {a} {low} {p} {q} x y s l = omega (arith, x.least q y.pick y.later s l, y.least p x.pick x.later s l)

-- Two outcomes of settling.
module _ {a : Asked} {low : ℕ → ℕ} where
  -- Their answers are equal.
  pub settled_answer : {f g : Bool} {xs ys : List ℕ} → Settled a low f xs → Settled a low g ys → f ≡ g
  settled_answer (found x) (found y) = refl
  settled_answer (found {xs} x) (ended n) = absurd (n (at xs) x.pick x.later)
  settled_answer (ended n) (found {xs} y) = absurd (n (at xs) y.pick y.later)
  settled_answer (ended n) (ended m) = refl

  -- Where there is a pick, so are the cursors of the question's steps.
  pub settled_cursors : {f g : Bool} {xs ys : List ℕ} → Settled a low f xs → Settled a low g ys → f ≡ true → (s : ℕ) → s < a.steps → at xs s ≡ at ys s
  settled_cursors (found x) (found y) e s l = least_one x y s l
  settled_cursors (found {xs} x) (ended n) e s l = absurd (n (at xs) x.pick x.later)
  settled_cursors (ended n) y e s l = absurd (true≢false (sym e))
