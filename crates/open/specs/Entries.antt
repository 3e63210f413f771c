-- The table of the records that are still open.
use Rattle.std.specs.Prelude.{ℕ, ◌≡◌, List, get_or, set}
use Rattle.open.specs.declared.Open.{Open}

-- The record with which the table is filled before the first turn.
abbrev pub blank : Open
blank = record { start = 0; end = 0; list = 0 }

-- The record at a place of the table; a blank one past the end, where no promise looks.
abbrev pub entry : List Open → ℕ → Open
entry table at = get_or table at blank

-- A record is stored at a place of the table, and the other places stay.
abbrev pub Stored : List Open → ℕ → Open → List Open → Type 0
Stored table at o table' = table' ≡ set table at o

-- A record is the one at a place of the table.
abbrev pub Taken : List Open → ℕ → Open → Type 0
Taken table at r = r ≡ entry table at
