-- What looking at one list alone finds, and what is left where nothing is found.
use Rattle.std.specs.Prelude.{ℕ, ◌+◌, ◌≤◌, ◌<◌, ◌⊎◌, List, Option, Some, None}
use Rattle.meaning.specs.declared.Label.{Label}
use Rattle.meaning.specs.Labels.{Lists}
use Rattle.meaning.specs.Day.{label_at}
use Rattle.reader.specs.Reading.{labels}

-- Of n labels one has start ≥ end, or two do not ascend by start.
pub data Disordered (n : ℕ) (label : ℕ → Label) : Type 0 where
  backward : (i : ℕ) → i < n → (label i).end ≤ (label i).start → Disordered n label
  descent : (i j : ℕ) → i < j → j < n → (label j).start ≤ (label i).start → Disordered n label

-- List r is wrong by itself.
abbrev pub ListWrong : Lists → ℕ → Type 0
ListWrong t r = Disordered (t.count r) (t.label r)

-- A list's body is wrong by itself.
abbrev pub BodyWrong : List ℕ → Type 0
BodyWrong b = Disordered (labels b) (label_at b 0)

-- What the look at a label gives, where it has to start at `low` or later: that it is wrong; or that it is right, and the next label has to start
-- behind its start.
pub data Looked (low : ℕ) (label : Label) : Option ℕ → Type 0 where
  wrong_label : (label.end ≤ label.start) ⊎ (label.start < low) → Looked low label None
  right_label : label.start < label.end → low ≤ label.start → Looked low label (Some (label.start + 1))

-- List r is right by itself: its labels are ordered, and it ascends strictly by start.
pub record ListRight (t : Lists) (r : ℕ) : Type 0 where
  pub ordered : (i : ℕ) → i < t.count r → (t.label r i).start < (t.label r i).end
  pub ascending : (i j : ℕ) → i < j → j < t.count r → (t.label r i).start < (t.label r j).start

-- What refusal 5 leaves: every list is right by itself.
abbrev pub Ordered : Lists → Type 0
Ordered t = (r : ℕ) → r < t.many → ListRight t r
