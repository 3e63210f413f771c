-- The refusal table: its rows in the order in which the checks run, and which number is given.
use Rattle.std.specs.Prelude.{ℕ, ◌≡◌, ◌⊎◌, List, Result, Ok, Err}
use Rattle.meaning.specs.Day.{TooShort, OtherVersion, WrongContents, WrongLength, WrongLists, WrongNesting}
use Rattle.meaning.specs.Notation.{TooLong, NotFollowing, TooLarge}
use Rattle.meaning.specs.Waits.{NoEntry, TimesDescend}
use Rattle.meaning.specs.declared.refusal.Refusal.{Refusal}
use Rattle.meaning.specs.Numbers.{number_of}

-- A table of refusals: a number with its reason, and the rows after it.
pub data Table : Type 1 where
  end : Table
  row : ℕ → Type 0 → Table → Table

-- One table after another.
abbrev pub followed : Table → Table → Table
followed end more = more
followed (row n reason rest) more = row n reason (followed rest more)

-- The table of the check call: rows 1 to 6, which are about the index.
abbrev pub check_table : List ℕ → Table
check_table b =
    row 1 (TooShort b) (row 2 (OtherVersion b) (row 3 (WrongContents b) (row 4 (WrongLength b) (row 5 (WrongLists b) (row 6 (WrongNesting b) end)))))

-- Rows 7 to 9, which are about the question.
abbrev pub question_table : List ℕ → Table
question_table text = row 7 (TooLong text) (row 8 (NotFollowing text) (row 9 (TooLarge text) end))

-- The table of the answer call and of the evidence call.
abbrev pub call_table : List ℕ → List ℕ → Table
call_table b text = followed (check_table b) (question_table text)

-- Rows 20 and 21, which are about the times lent beside an index.
abbrev pub times_table : List ℕ → List ℕ → Table
times_table b times = row 20 (NoEntry b times) (row 21 (TimesDescend times) end)

-- The table of the waits call: rows 1 to 6, then 20 and 21.
abbrev pub waits_table : List ℕ → List ℕ → Table
waits_table b times = followed (check_table b) (times_table b times)

-- The number n is given: it is the number of the first row whose reason applies.
abbrev pub Given : Table → ℕ → Type 0
Given end n = ⊥
Given (row m reason rest) n = (reason × (n ≡ m)) ⊎ ((reason → ⊥) × Given rest n)

-- No reason of the table applies.
abbrev pub Clear : Table → Type 0
Clear end = Unit
Clear (row m reason rest) = (reason → ⊥) × Clear rest

-- What a table gives: 0 where no reason of it applies, or else the number of the first row whose reason applies.
pub data Verdict (t : Table) : ℕ → Type 0 where
  clear : Clear t → Verdict t 0
  given : {n : ℕ} → Given t n → Verdict t n

-- What a test of a table answers, case by case: where it succeeds no reason of the table applies, and an error is the refusal whose number is
-- given.
abbrev pub Judged : {A : Type 0} → Table → Result A Refusal → Type 0
Judged t (Ok a) = Clear t
Judged t (Err e) = Given t (number_of e)

-- A lawful index: no reason of 1 to 6 applies.
abbrev pub Lawful : List ℕ → Type 0
Lawful b = Clear (check_table b)
