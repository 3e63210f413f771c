-- What the places and the keys of a walk hold, over the bytes of its index.
use Rattle.std.specs.Prelude.{ℕ, ◌+◌, ◌*◌, ◌-◌, ◌/◌, ◌%◌, ◌≤◌, ◌<◌, ◌≡◌, List, length, Option}
use Rattle.meaning.specs.Limits.{most_tags}
use Rattle.meaning.specs.Labels.{Lists}
use Rattle.meaning.specs.Day.{tags, offset, count, lists_of}
use Rattle.contents.specs.Parts.{Placed}
use Rattle.order.specs.Walk.{Ascend, Sorted, Comes, Moved, Done, Foretells, start_of, next}
use Rattle.meaning.specs.Bytes.{at}
use Rattle.tournament.specs.Tournament.{past}
use Rattle.order.specs.declared.Met.{Met}
use Rattle.order.specs.Keys.{Keys}

-- The position in list r of the label that begins at a place of the index.
abbrev pub position_at : List ℕ → ℕ → ℕ → ℕ
position_at b r place = (place - offset b r) / 8

-- The lists' cursors, by the places of the index at which their next labels begin.
abbrev pub cursor : List ℕ → List ℕ → ℕ → ℕ
cursor b places r = position_at b r (at places r)

-- A place is one at which a label of list r begins, or the place behind its last.
pub record AtLabel (b : List ℕ) (r place : ℕ) : Type 0 where
  pub begins : place ≡ offset b r + 8 * position_at b r place
  pub within : position_at b r place ≤ count b r

-- Every list has such a place.
pub record Cursors (b places : List ℕ) : Type 0 where
  pub long : length places ≡ most_tags
  pub each : (r : ℕ) → r < tags b → AtLabel b r (at places r)

-- The walk's number names the list and the start of what comes next, or is one past all such numbers and says that all were handed out.
pub record Names (t : Lists) (pos : ℕ → ℕ) (least : ℕ) : Type 0 where
  pub some : least < past → Comes t pos (least % most_tags)
  pub start : least < past → least / most_tags ≡ start_of t (next pos (least % most_tags))
  pub none : past ≤ least → Done t pos
  pub most : least ≤ past

-- A walk stands at its cursors: what was handed out comes before what is left, and the keys are the lists'.
pub record Standing (b places keys : List ℕ) : Type 0 where
  pub placed : Placed b
  pub ascend : Ascend (lists_of b)
  pub cursors : Cursors b places
  pub sorted : Sorted (lists_of b) (cursor b places)
  pub keyed : Keys (lists_of b) (cursor b places) keys

-- The first lists, `many` of them, have the places of their first labels.
pub record Filled (b : List ℕ) (many : ℕ) (places : List ℕ) : Type 0 where
  pub long : length places ≡ most_tags
  pub place : (r : ℕ) → r < many → at places r ≡ offset b r

-- A walk that begins: nothing was handed out.
abbrev pub Begun : List ℕ → List ℕ → Type 0
Begun b places = (r : ℕ) → r < tags b → cursor b places r ≡ 0

-- A walk that hands out the label next in a list: that list's cursor moves on, and the others stay; and what comes next then.
pub record HandsOut (b places : List ℕ) (list : ℕ) (places' keys' : List ℕ) (coming : Option Met) : Type 0 where
  pub standing : Standing b places' keys'
  pub moved : Moved (cursor b places) (cursor b places') list
  pub foretold : Foretells (lists_of b) (cursor b places') coming
