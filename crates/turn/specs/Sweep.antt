-- One turn of the sweep of all lists in order of start: what it decides, and what it makes of the walk.
use Rattle.std.specs.Prelude.{ℕ, ◌-◌, ◌≤◌, ◌<◌, ◌≡◌, ◌⊎◌, true, false, List, length, Option, Some, None}
use Rattle.meaning.specs.Limits.{most_nested}
use Rattle.order.specs.declared.Met.{Met}
use Rattle.order.specs.Standing.{HandsOut}
use Rattle.open.specs.declared.Open.{Open}
use Rattle.open.specs.Entries.{entry}
use Rattle.turn.specs.declared.Turn.{Turn}
use Rattle.turn.specs.declared.Turn.TheVariants.{Over, Closed, Opened}

-- The innermost of the open records, which is the last.
abbrev pub innermost : List Open → Open
innermost records = entry records (length records - 1)

-- The innermost open record ends before a start.
abbrev pub Closes : List Open → ℕ → Type 0
Closes records start = (0 < length records) × ((innermost records).end < start)

-- A record that starts before the innermost open one has ended is refused: it starts with it, does not end before it, or is one too many.
abbrev pub Refuses : List Open → ℕ → ℕ → Type 0
Refuses records start end = (0 < length records) × (((innermost records).start ≡ start) ⊎ ((innermost records).end ≤ end) ⊎ (length records ≡ most_nested))

-- The record that a label is opened as.
abbrev pub opened : Met → Open
opened met = record { start = met.start; end = met.end; list = met.list }

-- The contract of a turn, by what it decides: no label is left and nothing is wrong; or the label that comes next closes the innermost open
-- record, or is refused, or is handed out and opened. The walk moves in the last case alone.
pub data Turned (b places keys : List ℕ) (records : List Open) (coming : Option Met) (places' keys' : List ℕ) (turn : Turn) : Type 0 where
  ends : coming ≡ None → turn ≡ Over false → places' ≡ places → keys' ≡ keys → Turned b places keys records coming places' keys' turn
  closes : (met : Met) → coming ≡ Some met → Closes records met.start → turn ≡ Closed coming → places' ≡ places → keys' ≡ keys
      → Turned b places keys records coming places' keys' turn
  refuses : (met : Met) → coming ≡ Some met → (Closes records met.start → ⊥) → Refuses records met.start met.end → turn ≡ Over true → places' ≡ places → keys' ≡ keys
      → Turned b places keys records coming places' keys' turn
  opens : (met : Met) (next : Option Met) → coming ≡ Some met → (Closes records met.start → ⊥) → (Refuses records met.start met.end → ⊥)
      → HandsOut b places met.list places' keys' next → turn ≡ Opened (opened met) next → Turned b places keys records coming places' keys' turn
