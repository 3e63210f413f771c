-- Which refusals the table of contents decides.
use Rattle.std.specs.Prelude.{ℕ, List}
use Rattle.meaning.specs.Day.{TooShort, OtherVersion, WrongContents, WrongLength}
use Rattle.meaning.specs.Refusals.{Table, end, row}

-- Rows 1 to 4 of the refusal table, which are about the table of contents.
abbrev pub contents_table : List ℕ → Table
contents_table b = row 1 (TooShort b) (row 2 (OtherVersion b) (row 3 (WrongContents b) (row 4 (WrongLength b) end)))
