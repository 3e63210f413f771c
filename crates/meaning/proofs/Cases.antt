-- What is said of a case of document 01's table. The marked cases are in Stars; the other files hold what these leave open.
pub mod Bytes
pub mod Alphabet
pub mod Brackets
pub mod SmallDay
pub mod Test
pub mod Stars
pub mod Index
pub mod Call
pub mod Calls
pub mod Unknown
pub mod Waits
pub mod Lines
use Prim.Native.Nat.{ℕ, ◌≤◌}
use mathlib.Core.Path.{◌≡◌}
use mathlib.Core.Bool.{Bool}
use mathlib.Core.List.{List, [], ◌∷◌, ◌++◌}
use lib.ListN.{length, drop}
use Rattle.std.specs.Prelude.{Option, Result, Ok}
use Rattle.meaning.specs.declared.Page.{Page}
use Rattle.meaning.specs.declared.refusal.Refusal.{Refusal}
use Rattle.meaning.specs.Day.{total}
use Rattle.meaning.specs.Notation.{Path}
use Rattle.meaning.specs.Picks.{asked}
use Rattle.meaning.specs.Pages.{answer_room, evidence_room}
use Rattle.meaning.specs.Promises.{Checked, Answered, Shown}

-- Room for rows: enough for every record, or for so many rows.
pub data Room : Type 0 where
  ample : Room
  just : ℕ → Room

-- A question put to an index, as a row of the table: the place, the room, and the outcome: positions, evidence rows, more, next place,
-- unknown step. The tree is not part of the table: it shows that the text follows the notation.
pub record Asking : Type 0 where
  pub index : List ℕ
  pub text : List ℕ
  pub tree : Path
  pub place : ℕ
  pub room : Room
  pub positions : List ℕ
  pub rows : List (List ℕ)
  pub more : Bool
  pub next : ℕ
  pub unknown : Option ℕ

-- A row of the table: a question, an index with the number that the check call gives, or a lawful index without records.
pub data Case : Type 0 where
  ask : Asking → Case
  check : List ℕ → ℕ → Case
  empty : List ℕ → Case

-- This room is as the table says, for so many rows.
abbrev pub IsRoom : Room → ℕ → ℕ → Type 0
IsRoom ample n room = n ≤ room
IsRoom (just m) n room = room ≡ m

-- Rows one after the other.
abbrev pub joined : List (List ℕ) → List ℕ
joined [] = []
joined (w ∷ ws) = w ++ joined ws

-- The page that the table says.
abbrev pub page_in : Asking → Page
page_in c = record { rows = length c.positions; more = c.more; next = c.next; unknown = c.unknown }

abbrev pub result_of : Asking → Result Page Refusal
result_of c = Ok (page_in c)

-- The buffer after rows were written to its beginning.
abbrev pub over : List ℕ → List ℕ → List ℕ
over rows entry = rows ++ drop (length rows) entry

-- What is said of a question: whatever buffer of that room is lent, the outcome of each call is the table's.
pub record AskRight (c : Asking) : Type 0 where
  pub answered : (entry : List ℕ) → IsRoom c.room (length c.positions) (answer_room (asked c.index c.tree) (length entry))
      → Answered c.index c.text c.place entry (over c.positions entry) (result_of c)
  pub shown : (entry : List ℕ) → IsRoom c.room (length c.positions) (evidence_room (asked c.index c.tree) (length entry))
      → Shown c.index c.text c.place entry (over (joined c.rows) entry) (result_of c)

-- What is said of each row of the table.
abbrev pub Right : Case → Type 0
Right (ask c) = AskRight c
Right (check b n) = Checked b n
Right (empty b) = Checked b 0 × (total b ≡ 0)

-- Something holds of every case of a table.
abbrev pub Every : {A : Type 0} → (A → Type 0) → List A → Type 0
Every P [] = Unit
Every P (c ∷ cs) = P c × Every P cs

-- What follows from it for a case follows for every case.
pub every_as : {A : Type 0} {P Q : A → Type 0} → ((c : A) → P c → Q c) → (cs : List A) → Every P cs → Every Q cs
every_as f [] h = tt
every_as f (c ∷ cs) h = (f c h.0, every_as f cs h.1)

-- Every case of a table is right.
abbrev pub All : List Case → Type 0
All = Every Right
