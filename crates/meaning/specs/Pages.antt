-- Pages: the records of a call, its rows in the lent buffer, the step whose name is unknown, and its result.
use Rattle.std.specs.Prelude.{ℕ, ◌≤◌, ◌<◌, ◌/◌, min, ◌≡◌, ◌⊎◌, List, [], ◌∷◌, ◌++◌, ltb, length, take, drop, get_or, Option, Some, None, Result, Err}
use Rattle.meaning.specs.declared.Page.{Page}
use Rattle.meaning.specs.declared.refusal.Refusal.{Refusal}
use Rattle.meaning.specs.Day.{Finds}
use Rattle.meaning.specs.Notation.{Path, steps}
use Rattle.meaning.specs.Picks.{Asked, Returned, step_at}

-- The list holds i.
abbrev pub In : ℕ → List ℕ → Type 0
In i [] = ⊥
In i (x ∷ xs) = (i ≡ x) ⊎ In i xs

-- The list ascends strictly: so it holds each of its numbers once, in order.
abbrev pub Ascending : List ℕ → Type 0
Ascending [] = Unit
Ascending (x ∷ xs) = ((i : ℕ) → In i xs → x < i) × Ascending xs

-- The records of a call: the returned ones at list position `place` or later, each once, in order of start.
pub record Records (a : Asked) (place : ℕ) (all : List ℕ) : Type 0 where
  pub ascending : Ascending all
  pub each : (i : ℕ) → In i all → Returned a i × (place ≤ i)
  pub every : (i : ℕ) → Returned a i → place ≤ i → In i all

-- What the rows of these records hold, one after the other, where `Row i w` says that w is the row of record i.
pub data Rows (Row : ℕ → List ℕ → Type 0) : List ℕ → List ℕ → Type 0 where
  none : Rows Row [] []
  row : {i : ℕ} {w is ws : List ℕ} → Row i w → Rows Row is ws → Rows Row (i ∷ is) (w ++ ws)

-- A row of the answer call is the record's list position.
abbrev pub Position : ℕ → List ℕ → Type 0
Position i w = w ≡ i ∷ []

-- Room for rows in a buffer of this length: for the answer call the length itself.
abbrev pub answer_room : Asked → ℕ → ℕ
answer_room a len = len

-- For the evidence call it is the length divided by the number of steps, rounded down.
abbrev pub evidence_room : Asked → ℕ → ℕ
evidence_room a len = len / a.steps

-- A page: the first records from a place on, as many as there is room for, stand from the buffer's beginning and the rest of the
-- buffer stays; the result has the rows written, whether a further record remains, and the next place: the position of the
-- first record not written, or, if none remains, the number of labels in the returned step's list.
pub record Paged (a : Asked) (Row : ℕ → List ℕ → Type 0) (place room : ℕ) (entry exit : List ℕ) (r : Page) : Type 0 where
  pub all : List ℕ
  pub records : Records a place all
  pub written : List ℕ
  pub rows_written : Rows Row (take r.rows all) written
  pub buffer : exit ≡ written ++ drop (length written) entry
  pub rows : r.rows ≡ min room (length all)
  pub more : r.more ≡ ltb r.rows (length all)
  pub next : r.next ≡ get_or all r.rows (a.count a.returned)

-- The number that stands for no step where a step's number is told.
abbrev pub no_step : ℕ
no_step = 32

-- The first of the steps below `many` of which something holds, or none if there is none.
pub data First (Such : ℕ → Type 0) (many : ℕ) : Option ℕ → Type 0 where
  here : {s : ℕ} → s < many → Such s → ((j : ℕ) → j < s → Such j → ⊥) → First Such many (Some s)
  nowhere : ((j : ℕ) → j < many → Such j → ⊥) → First Such many None

-- No row of the index has the name of step s.
abbrev pub NoRow : List ℕ → Path → ℕ → Type 0
NoRow b p s = Finds b (step_at p s).name None

-- The unknown step that a result tells: the first step in text order, in brackets too, whose name has no row, or none if there is none.
abbrev pub FirstUnknown : List ℕ → Path → Option ℕ → Type 0
FirstUnknown b p = First (NoRow b p) (steps p)

-- A refusal: the result is that error and no page, and the lent buffer is unchanged.
pub record Refused (e : Refusal) (entry exit : List ℕ) (r : Result Page Refusal) : Type 0 where
  pub buffer : exit ≡ entry
  pub refusal : r ≡ Err e
