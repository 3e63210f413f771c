-- What a reader of one list's body stands before, what it hands out, and where it stands then.
use Rattle.std.specs.Prelude.{ℕ, ◌≡◌, ◌+◌, ◌-◌, cond, List, ltb, Option, Some, None, MatchOption}
use Rattle.std.specs.Borrow.{Bor}
use Rattle.meaning.specs.declared.Label.{Label}
use Rattle.meaning.specs.Day.{label_at}
use Rattle.meaning.specs.Waits.{in_body}
use Rattle.reader.specs.declared.Reader.{Reader}

-- How many whole labels a body by itself has.
abbrev pub labels : List ℕ → ℕ
labels b = (in_body b).count

-- What comes next at a place of a body by itself: its label there, or none behind the last whole label.
abbrev pub next_at : List ℕ → ℕ → Option Label
next_at b at = cond (ltb at (labels b)) (Some (label_at b 0 at)) None

-- The reader of a body at a place, which is the number of the label that comes next.
abbrev pub reader_at : Bor (List ℕ) → ℕ → Reader
reader_at body at = record { body = body; at = at }

-- What a reader hands out: what comes next at its place.
abbrev pub next_of : Reader → Option Label
next_of r = next_at r.body.now r.at

-- How many labels a reader has left to hand out.
abbrev pub labels_left : Reader → ℕ
labels_left r = labels r.body.now - r.at

-- The same body's reader, one label on.
abbrev pub onward : Reader → Reader
onward r = reader_at r.body (r.at + 1)

-- A call of `next` at reader r: it hands out what comes next there, and leaves the reader one label on, or at the end where it was.
abbrev pub Gives : Reader → Option Label → Reader → Type 0
Gives r given then = (given ≡ next_of r) × MatchOption given (then ≡ r) (λ _. then ≡ onward r)
