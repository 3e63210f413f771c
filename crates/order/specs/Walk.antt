-- A walk over all labels of all lists in order of start, told by a cursor for each list: what was handed out, what is left, and what
-- comes next. Nothing here knows how the next label is found.
use Rattle.std.specs.Prelude.{ℕ, suc, ◌≤◌, ◌<◌, ◌≡◌, ◌⊎◌, ◌≢◌, Option, Some, None}
use Rattle.meaning.specs.Labels.{Lists, Place, label_of, Holds}
use Rattle.order.specs.declared.Met.{Met}

-- The start of the label at a place.
abbrev pub start_of : Lists → Place → ℕ
start_of t x = (label_of t x).start

-- The end of the label at a place.
abbrev pub end_of : Lists → Place → ℕ
end_of t x = (label_of t x).end

-- Each list ascends strictly by start.
abbrev pub Ascend : Lists → Type 0
Ascend t = (r i j : ℕ) → r < t.many → i < j → j < t.count r → (t.label r i).start < (t.label r j).start

-- A label is seen when it was handed out: its list's cursor is past it.
pub record Seen (t : Lists) (pos : ℕ → ℕ) (x : Place) : Type 0 where
  pub holds : Holds t x
  pub past : x.at < pos x.list

-- A label waits when it is left: its list's cursor is not past it.
pub record Waits (t : Lists) (pos : ℕ → ℕ) (x : Place) : Type 0 where
  pub holds : Holds t x
  pub ahead : pos x.list ≤ x.at

-- The order of the walk: the label at x starts before the one at y, or with it and stands in no later list.
abbrev pub Precedes : Lists → Place → Place → Type 0
Precedes t x y = (start_of t x < start_of t y) ⊎ ((start_of t x ≡ start_of t y) × (x.list ≤ y.list))

-- What was handed out comes before what is left.
abbrev pub Sorted : Lists → (ℕ → ℕ) → Type 0
Sorted t pos = (x y : Place) → Seen t pos x → Waits t pos y → Precedes t x y

-- The label that is next in list r.
abbrev pub next : (ℕ → ℕ) → ℕ → Place
next pos r = record { list = r; at = pos r }

-- The label next in list r comes next of all: it waits, and comes before all that wait.
pub record Comes (t : Lists) (pos : ℕ → ℕ) (r : ℕ) : Type 0 where
  pub waits : Waits t pos (next pos r)
  pub first : (y : Place) → Waits t pos y → Precedes t (next pos r) y

-- List r's cursor moves on by one.
pub record Moved (pos pos' : ℕ → ℕ) (r : ℕ) : Type 0 where
  pub here : pos' r ≡ suc (pos r)
  pub other : (s : ℕ) → s ≢ r → pos' s ≡ pos s

-- Every label was handed out.
abbrev pub Done : Lists → (ℕ → ℕ) → Type 0
Done t pos = (r : ℕ) → r < t.many → t.count r ≤ pos r

-- What an answer says of what comes next: that label, with its list, its position there and its numbers; or that all were handed out.
abbrev pub Foretells : Lists → (ℕ → ℕ) → Option Met → Type 0
Foretells t pos (Some met) = Comes t pos met.list × (met.at ≡ pos met.list) × (met.start ≡ start_of t (next pos met.list)) × (met.end ≡ end_of t (next pos met.list))
Foretells t pos None = Done t pos
