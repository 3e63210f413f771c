-- What the table of contents leaves to those that stand on it.
use Rattle.std.specs.Prelude.{ℕ, ◌+◌, ◌*◌, ◌≤◌, ◌<◌, List, length, take, drop}
use Rattle.meaning.specs.declared.Body.{Body}
use Rattle.meaning.specs.Limits.{most_tags, most_labels}
use Rattle.meaning.specs.Day.{tags, offset, count, row_at, row_list}

-- What refusals 1 to 4 leave: every row and every list lies within the index.
pub record Placed (b : List ℕ) : Type 0 where
  pub few : tags b ≤ most_tags
  pub rows : row_at (tags b) ≤ length b
  pub held : (r : ℕ) → r < tags b → offset b r + 8 * count b r ≤ length b
  pub small : (r : ℕ) → r < tags b → count b r ≤ most_labels

-- A list's body lies within the index.
abbrev pub InIndex : List ℕ → Body → Type 0
InIndex b l = l.offset + 8 * l.count ≤ length b

-- The bytes of a list's body: a part of the index.
abbrev pub bytes_of : List ℕ → Body → List ℕ
bytes_of b l = take (8 * l.count) (drop l.offset b)

-- The body of row r by itself.
abbrev pub row_body : List ℕ → ℕ → List ℕ
row_body b r = bytes_of b (row_list b r)
