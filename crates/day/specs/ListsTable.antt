-- What the two parts of the check that are about the lists give.
use Rattle.std.specs.Prelude.{ℕ, List}
use Rattle.meaning.specs.Day.{WrongLists, WrongNesting}
use Rattle.meaning.specs.Refusals.{Table, end, row}

-- Rows 5 and 6 of the refusal table, which are about the lists; those before them are the table of contents'.
abbrev pub lists_table : List ℕ → Table
lists_table b = row 5 (WrongLists b) (row 6 (WrongNesting b) end)
