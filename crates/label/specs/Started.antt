-- How many labels of a body start at or before a number.
use Rattle.std.specs.Prelude.{ℕ, ◌≤◌, ◌<◌, List}
use Rattle.meaning.specs.Day.{label_at}

-- The n labels of the body that begins at a place ascend strictly by start.
abbrev pub Ascends : List ℕ → ℕ → ℕ → Type 0
Ascends b at n = (i j : ℕ) → i < j → j < n → (label_at b at i).start < (label_at b at j).start

-- r is how many of the n labels of the body that begins at a place start at or before v: they are the first r.
pub record Started (b : List ℕ) (at n v r : ℕ) : Type 0 where
  pub within : r ≤ n
  pub first : (i : ℕ) → i < r → (label_at b at i).start ≤ v
  pub rest : (i : ℕ) → r ≤ i → i < n → v < (label_at b at i).start

-- How many of the n labels of the body that begins at a place start at or before v is a number from `low` to `high`: the first `low` do, and
-- those from `high` on do not.
pub record Between (b : List ℕ) (at n v low high : ℕ) : Type 0 where
  pub ordered : low ≤ high
  pub within : high ≤ n
  pub first : (i : ℕ) → i < low → (label_at b at i).start ≤ v
  pub rest : (i : ℕ) → high ≤ i → i < n → v < (label_at b at i).start
