-- The day index, a list of bytes: its table of contents, its lists of labels, and refusals 1 to 6.
use Rattle.std.specs.Prelude.{ℕ, zero, suc, ◌+◌, ◌*◌, ◌<◌, ◌≡◌, ◌⊎◌, ◌≢◌, cond, List, length, take, drop, Option, Some, None}
use Rattle.meaning.specs.declared.Label.{Label}
use Rattle.meaning.specs.declared.Body.{Body}
use Rattle.meaning.specs.Limits.{most_tags, most_labels, most_name}
use Rattle.meaning.specs.Bytes.{u16_at, u32_at}
use Rattle.meaning.specs.Labels.{Lists, Unordered, Tangled}
use Rattle.meaning.specs.Names.{Name, filled, Sooner, same}

-- Bytes 0 and 1: T, the number of tags.
abbrev pub tags : List ℕ → ℕ
tags b = u16_at b 0

-- Bytes 2 and 3: the version.
abbrev pub version : List ℕ → ℕ
version b = u16_at b 2

-- Where row r begins, of rows of 24 bytes; the first body begins where row T would.
abbrev pub row_at : ℕ → ℕ
row_at r = 4 + 24 * r

-- The name of row r: 16 bytes, filled up with zero bytes.
abbrev pub name_field : List ℕ → ℕ → List ℕ
name_field b r = take most_name (drop (row_at r) b)

-- The offset of row r's body from the file's start.
abbrev pub offset : List ℕ → ℕ → ℕ
offset b r = u32_at b (row_at r + 16)

-- The number of labels of row r.
abbrev pub count : List ℕ → ℕ → ℕ
count b r = u32_at b (row_at r + 20)

-- How many labels the first r rows have together.
unfoldable pub labels : List ℕ → ℕ → ℕ
labels b zero = 0
labels b (suc r) = labels b r + count b r

-- N: how many labels all rows have together.
abbrev pub total : List ℕ → ℕ
total b = labels b (tags b)

-- Where row r's body has to begin: bodies follow in row order without gaps.
abbrev pub body_at : List ℕ → ℕ → ℕ
body_at b r = row_at (tags b) + 8 * labels b r

-- Label i of the body that begins at a place: 8 bytes, the start and then the end.
abbrev pub label_at : List ℕ → ℕ → ℕ → Label
label_at b at i = record { start = u32_at b (at + 8 * i); end = u32_at b (at + 8 * i + 4) }

-- The lists of the day: one for each row, in row order.
abbrev pub lists_of : List ℕ → Lists
lists_of b = record { many = tags b; count = count b; label = λ r i. label_at b (offset b r) i }

-- The list of row r, as where its body begins and its number of labels.
abbrev pub row_list : List ℕ → ℕ → Body
row_list b r = record { offset = offset b r; count = count b r }

-- Row r of the index has the name.
abbrev pub Has : List ℕ → List ℕ → ℕ → Type 0
Has b n r = (r < tags b) × (name_field b r ≡ filled n)

-- What looking up a name finds, case by case: a known list is that of a row that has the name, with the row's offset and number of labels,
-- which may be 0; a name is unknown where no row has it.
abbrev pub Finds : List ℕ → List ℕ → Option Body → Type 0
Finds b n (Some l) = (r : ℕ) × Has b n r × (l ≡ row_list b r)
Finds b n None = (r : ℕ) → Has b n r → ⊥

-- The list of a name among the first r rows; a name without a row has no records.
unfoldable pub list_among : List ℕ → List ℕ → ℕ → Body
list_among b n zero = record { offset = 0; count = 0 }
list_among b n (suc r) = cond (same (name_field b r) (filled n)) (row_list b r) (list_among b n r)

-- The list of a name.
abbrev pub list_of : List ℕ → List ℕ → Body
list_of b n = list_among b n (tags b)

-- What looking up a name hands back: that tag's body as a part of the index, or an empty part.
abbrev pub body_of : List ℕ → List ℕ → List ℕ
body_of b n = take (8 * (list_of b n).count) (drop (list_of b n).offset b)

-- Row r is right: its name is one, it comes after the row before, and its body begins where it has to.
pub record RowRight (b : List ℕ) (r : ℕ) : Type 0 where
  pub name : List ℕ
  pub is_name : Name name
  pub here : name_field b r ≡ filled name
  pub order : (q : ℕ) → suc q ≡ r → Sooner (name_field b q) (name_field b r)
  pub place : offset b r ≡ body_at b r

-- Refusal 1: the index has fewer than 4 bytes.
abbrev pub TooShort : List ℕ → Type 0
TooShort b = length b < 4

-- Refusal 2: its version is not 1.
abbrev pub OtherVersion : List ℕ → Type 0
OtherVersion b = version b ≢ 1

-- Refusal 3: T over 256, fewer than 4 + 24 × T bytes, any row's name, order or offset is wrong, or N over 1,048,576.
abbrev pub WrongContents : List ℕ → Type 0
WrongContents b = (most_tags < tags b) ⊎ (length b < row_at (tags b)) ⊎ ((r : ℕ) × (r < tags b) × (RowRight b r → ⊥)) ⊎ (most_labels < total b)

-- Refusal 4: the length is not 4 + 24 × T + 8 × N.
abbrev pub WrongLength : List ℕ → Type 0
WrongLength b = length b ≢ 4 + 24 * tags b + 8 * total b

-- Refusal 5: a label with start ≥ end, or a list not strictly ascending by start.
abbrev pub WrongLists : List ℕ → Type 0
WrongLists b = Unordered (lists_of b)

-- Refusal 6: two labels share a number or cross, or 65 are nested.
abbrev pub WrongNesting : List ℕ → Type 0
WrongNesting b = Tangled (lists_of b)
