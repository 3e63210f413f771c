-- A tournament of m numbers: they stand at m to 2m - 1, and each node from 1 to m - 1 holds the lesser of nodes 2i and 2i + 1.
use Rattle.std.specs.Prelude.{ℕ, ◌+◌, ◌*◌, ◌≤◌, ◌<◌, ◌≡◌, ◌⊎◌, ◌≢◌, List, length, take, drop}
use Rattle.meaning.specs.Bytes.{at}
use Rattle.meaning.specs.Limits.{most_tags}

-- v is the lesser of a and b.
pub record Lesser (v a b : ℕ) : Type 0 where
  pub left : v ≤ a
  pub right : v ≤ b
  pub one : (v ≡ a) ⊎ (v ≡ b)

-- How many places a tournament has.
abbrev pub nodes : ℕ
nodes = 2 * most_tags

-- Every node holds the lesser of its two.
pub record Tree (m : ℕ) (xs : List ℕ) : Type 0 where
  pub long : length xs ≡ nodes
  pub node : (i : ℕ) → 1 ≤ i → i < m → Lesser (at xs i) (at xs (2 * i)) (at xs (2 * i + 1))

-- The m numbers that play are those of another tournament.
abbrev pub SameLeaves : ℕ → List ℕ → List ℕ → Type 0
SameLeaves m xs ys = (j : ℕ) → j < m → at ys (m + j) ≡ at xs (m + j)

-- Number `leaf` is now `key`, and the others stay.
pub record Put (m leaf key : ℕ) (xs ys : List ℕ) : Type 0 where
  pub tree : Tree m ys
  pub here : at ys (m + leaf) ≡ key
  pub other : (j : ℕ) → j < m → j ≢ leaf → at ys (m + j) ≡ at xs (m + j)

-- How many 32-bit numbers there are.
abbrev pub numbers : ℕ
numbers = 4_294_967_296

-- What stands for none: below it there are most_tags numbers for each number of 32 bits.
abbrev pub past : ℕ
past = numbers * most_tags

-- The m numbers that play.
abbrev pub leaves : ℕ → List ℕ → List ℕ
leaves m xs = take m (drop m xs)

-- What the fields of a tournament hold: not more players than there is room for, and every node the lesser of its two.
pub record Bracket (m : ℕ) (xs : List ℕ) : Type 0 where
  pub few : m ≤ most_tags
  pub tree : Tree m xs

-- The least of some numbers, and where there is none, what stands for none.
pub record Least (xs : List ℕ) (v : ℕ) : Type 0 where
  pub below : (j : ℕ) → j < length xs → v ≤ at xs j
  pub one : 0 < length xs → (j : ℕ) × (j < length xs) × (at xs j ≡ v)
  pub none : length xs ≡ 0 → v ≡ past
