-- The promises of the four public calls.
use Rattle.std.specs.Prelude.{ℕ, List, length, Result, Ok, Err}
use Rattle.meaning.specs.declared.Page.{Page}
use Rattle.meaning.specs.declared.Figures.{Figures}
use Rattle.meaning.specs.declared.refusal.Refusal.{Refusal}
use Rattle.meaning.specs.Numbers.{number_of}
use Rattle.meaning.specs.Notation.{Follows}
use Rattle.meaning.specs.Picks.{Asked, Evidence, asked}
use Rattle.meaning.specs.Pages.{Paged, FirstUnknown, Refused, Position, answer_room, evidence_room}
use Rattle.meaning.specs.Waits.{traffic, Figured}
use Rattle.meaning.specs.Refusals.{Table, Given, Clear, Verdict, check_table, call_table, waits_table}

-- The check call on an index gives the number of the first reason of 1 to 6 that applies, or 0 exactly for a lawful index.
abbrev pub Checked : List ℕ → ℕ → Type 0
Checked b n = Verdict (check_table b) n

-- A call on an index b, a question and a place makes `exit` of the lent buffer `entry` and gives a result: it refuses with the number of the
-- first reason of its table t that applies, or none applies and it gives a page and tells the unknown step. The two calls for rows
-- differ in what a row is and in the room for rows.
pub data Outcome (t : Table) (Row : Asked → ℕ → List ℕ → Type 0) (room : Asked → ℕ → ℕ) (b text : List ℕ) (place : ℕ) (entry exit : List ℕ) : Result Page Refusal → Type 0 where
  refused : {e : Refusal} {r : Result Page Refusal} → Given t (number_of e) → Refused e entry exit r → Outcome t Row room b text place entry exit r
  page : {p : Page} → Clear t → (f : Follows text) → Paged (asked b f.tree) (Row (asked b f.tree)) place (room (asked b f.tree) (length entry)) entry exit p
      → FirstUnknown b f.tree p.unknown → Outcome t Row room b text place entry exit (Ok p)

-- The answer call writes the list positions of the returned records.
abbrev pub Answered : List ℕ → List ℕ → ℕ → List ℕ → List ℕ → Result Page Refusal → Type 0
Answered b text = Outcome (call_table b text) (λ a. Position) answer_room b text

-- The evidence call writes, for each returned record, its evidence: a row of as many list positions as the question has steps.
abbrev pub Shown : List ℕ → List ℕ → ℕ → List ℕ → List ℕ → Result Page Refusal → Type 0
Shown b text = Outcome (call_table b text) Evidence evidence_room b text

-- The waits call on an index and a list of times gives a result: it refuses with the number of the first reason of its table that applies, or
-- none applies and it gives the figures of all calls of the day.
pub data Tabled (b times : List ℕ) : Result Figures Refusal → Type 0 where
  untold : {e : Refusal} → Given (waits_table b times) (number_of e) → Tabled b times (Err e)
  told : {f : Figures} → Clear (waits_table b times) → Figured (traffic b times) (traffic b times).calls.count f → Tabled b times (Ok f)
