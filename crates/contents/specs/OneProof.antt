-- What stands in the invariant of a table of contents has at most one proof.
use Rattle.std.specs.Prelude.{ℕ, List}
use Rattle.std.specs.Coded.{le_prop}
use Rattle.contents.specs.Parts.{Placed}

-- Every row and every list lies within the index.
pub placed_prop : (b : List ℕ) → IsProp (Placed b)
placed_prop b p q = λ i. record {
  few = le_prop p.few q.few i;
  rows = le_prop p.rows q.rows i;
  held = λ r l. le_prop (p.held r l) (q.held r l) i;
  small = λ r l. le_prop (p.small r l) (q.small r l) i;
}
