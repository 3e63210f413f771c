-- The promise of a search fixes its result.
use Prim.Native.Nat.{ℕ, ◌≤◌, ◌<◌}
use native.Mathlib.Nat.{le_antisymm, lt_of_not-le}
use native.Mathlib.Decide.{dec_le}
use native.Mathlib.Omega.{arith}
use mathlib.Core.Path.{◌≡◌}
use mathlib.Core.List.{List}
use Rattle.label.specs.Started.{Started}

-- Of two counts neither is the greater: label r would start after v by the one and at or before v by the other.
no_more : {b : List ℕ} {at n v r q : ℕ} → Started b at n v r → Started b at n v q → q ≤ r
no_more {r = r} {q = q} x y = go (dec_le q r)
  where
    less : r < q → ⊥
    less l = omega (arith, y.first r (omega arith), x.rest r (omega arith) (omega arith))

    go : Dec (q ≤ r) → q ≤ r
    go (yes l) = l
    go (no l) = absurd (less (lt_of_not-le l))

-- So two results that keep the promise are equal: whoever computes it in another way gives the same.
pub started_one : {b : List ℕ} {at n v r q : ℕ} → Started b at n v r → Started b at n v q → r ≡ q
started_one x y = le_antisymm (no_more y x) (no_more x y)
