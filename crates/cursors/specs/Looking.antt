-- What a look from one cursor to the one above it finds.
use Rattle.std.specs.Prelude.{ℕ, ◌≤◌, ◌<◌, List}
use Rattle.meaning.specs.declared.Label.{Label}
use Rattle.meaning.specs.Day.{label_at}
use Rattle.label.specs.Started.{Started}
use Rattle.cursors.specs.declared.looking.Record.{Record}
use Rattle.cursors.specs.declared.looking.Sight.{Sight}
use Rattle.cursors.specs.declared.looking.Sight.TheVariants.{Early, Late, Touching}

-- The label of a record.
abbrev pub label_of : List ℕ → Record → Label
label_of b r = label_at b r.list.offset r.at

-- A record seen from one that it is to lie in: it starts at or before that one's start, and the first of its list that starts later is r; or it
-- starts after that one's end; or it starts within that one.
abbrev pub Looks : List ℕ → Record → Record → Sight → Type 0
Looks b inner outer (Early r) = ((label_of b inner).start ≤ (label_of b outer).start) × Started b inner.list.offset inner.list.count (label_of b outer).start r
Looks b inner outer Late = (label_of b outer).end < (label_of b inner).start
Looks b inner outer Touching = ((label_of b outer).start < (label_of b inner).start) × ((label_of b inner).start ≤ (label_of b outer).end)
