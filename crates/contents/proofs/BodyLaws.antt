-- The body of a list, as a part of the index.
use Prim.Native.Nat.{ℕ, ◌+◌, ◌*◌, ◌≤◌}
use native.Mathlib.Omega.{arith}
use mathlib.Core.Path.{◌≡◌}
use mathlib.Core.List.{List}
use lib.ListN.{length, drop, length-drop}
use lib.Seq.{length-take-le}
use Rattle.meaning.specs.Day.{offset, count}
use Rattle.contents.specs.Parts.{row_body}

-- A row's body has 8 bytes for each label.
pub body_length : (b : List ℕ) (r : ℕ) → offset b r + 8 * count b r ≤ length b → length (row_body b r) ≡ 8 * count b r
body_length b r l = length-take-le (8 * count b r) (drop (offset b r) b) (rw length-drop (omega arith))
