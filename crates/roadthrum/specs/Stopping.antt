-- What ends the printing of evidence before its time.
use Rattle.std.specs.Prelude.{ℕ, List}
use Rattle.meaning.specs.Refusals.{Given, call_table}
use Rattle.meaning.specs.Numbers.{number_of}
use Rattle.roadthrum.specs.declared.error.Error.{Error}
use Rattle.roadthrum.specs.declared.error.Error.TheVariants.{Unreadable, Refused, Unprintable}

-- A refusal is the one that the table of the calls for rows gives; the files were read; and what can't be printed may end it at any time.
abbrev pub Stops : List ℕ → List ℕ → Error → Type 0
Stops b text Unreadable = ⊥
Stops b text (Refused e) = Given (call_table b text) (number_of e)
Stops b text (Unprintable e) = Unit
