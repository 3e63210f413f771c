-- What the small tests of the table of contents are about.
use Rattle.std.specs.Prelude.{ℕ, suc, ◌<◌, ◌≡◌, List, Option, Some, None}
use Rattle.meaning.specs.Names.{Sooner}
use Rattle.meaning.specs.Day.{tags, total, name_field, RowRight}

-- Row r comes after the row before it, if there is one.
abbrev pub InOrder : List ℕ → ℕ → Type 0
InOrder b r = (q : ℕ) → suc q ≡ r → Sooner (name_field b q) (name_field b r)

-- What looking at all rows says: each is right, and n is how many labels they have together; or there is one that is not right.
abbrev pub AllRows : List ℕ → Option ℕ → Type 0
AllRows b (Some n) = ((r : ℕ) → r < tags b → RowRight b r) × (n ≡ total b)
AllRows b None = (r : ℕ) × (r < tags b) × (RowRight b r → ⊥)
