-- What the look at one list for numbers without an entry finds.
use Rattle.std.specs.Prelude.{ℕ, ◌≤◌, ◌<◌, List}
use Rattle.meaning.specs.declared.Body.{Body}
use Rattle.meaning.specs.Day.{label_at}

-- A label of a list ends at a number that has none of so many entries.
abbrev pub EndsPast : List ℕ → Body → ℕ → Type 0
EndsPast b l entries = (i : ℕ) × (i < l.count) × (entries ≤ (label_at b l.offset i).end)
