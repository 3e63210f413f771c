-- What a call adds to the figures.
use Rattle.std.specs.Prelude.{ℕ, ◌+◌, ◌*◌, ◌-◌, ◌≤◌, ◌<◌, max, List, length}
use Rattle.meaning.specs.declared.Figures.{Figures}
use Rattle.meaning.specs.Limits.{most_labels}
use Rattle.meaning.specs.Bytes.{at}
use Rattle.meaning.specs.Waits.{board, cancel}
use Rattle.meaning.specs.Fit.{one_ended, one_open}
use Rattle.tally.specs.declared.Outcome.{Outcome}
use Rattle.tally.specs.declared.Outcome.TheVariants.{Boarded, Cancelled, Open}

-- The figures are those of so few calls that one more can be added.
pub record Small (f : Figures) : Type 0 where
  pub calls : f.calls ≤ most_labels
  pub boarded : f.boarded ≤ most_labels
  pub cancelled : f.cancelled ≤ most_labels
  pub left_open : f.left_open ≤ most_labels
  pub over : f.over ≤ most_labels
  pub total : f.total ≤ most_labels * 4_294_967_295

-- A wait that runs from one number to another has its times: it ends no sooner than it starts, its end has an entry, and times do not descend.
pub record WaitTimed (times : List ℕ) (start until : ℕ) : Type 0 where
  pub onward : start ≤ until
  pub within : until < length times
  pub forward : (m n : ℕ) → m ≤ n → n < length times → at times m ≤ at times n

-- So it is for the outcome, where there is a wait.
abbrev pub Timed : List ℕ → ℕ → Outcome → Type 0
Timed times start (Boarded until) = WaitTimed times start until
Timed times start (Cancelled until) = WaitTimed times start until
Timed times start Open = Unit

-- The figures with one call more that has waited for d, but for how it ended.
abbrev pub waited_for : ℕ → Figures → Figures
waited_for d f =
    record { calls = f.calls + 1; boarded = f.boarded; cancelled = f.cancelled; left_open = f.left_open; total = f.total + d; longest = max f.longest d; over = f.over + 1 }

-- The figures with one call more that starts at a number, by its outcome.
abbrev pub added : (ℕ → ℕ) → ℕ → Figures → Outcome → Figures
added time start f (Boarded until) = one_ended board (time until - time start) f
added time start f (Cancelled until) = one_ended cancel (time until - time start) f
added time start f Open = one_open f
