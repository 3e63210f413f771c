-- What every question put to a lawful day is, what the traffic of every lawful day with its times is, and what one call more makes of figures. No
-- promise speaks of it: contracts of inner functions do, so that they need name no byte.
use Rattle.std.specs.Prelude.{ℕ, ◌+◌, ◌≤◌, ◌<◌, max, ◌≡◌, ◌⊎◌, ◌≢◌}
use Rattle.meaning.specs.declared.Figures.{Figures}
use Rattle.meaning.specs.Limits.{most_labels}
use Rattle.meaning.specs.Labels.{Inside, Apart}
use Rattle.meaning.specs.Notation.{from}
use Rattle.meaning.specs.Picks.{Asked}
use Rattle.meaning.specs.Waits.{Ending, board, cancel, of_ending, Traffic}

-- What picks rest on: a step hangs from an earlier one, the returned step is one, the records of each step are ordered and ascend by
-- start, and the records of two steps are the same one, or one lies inside the other, or they are apart.
pub record Fit (a : Asked) : Type 0 where
  pub returned_lt : a.returned < a.steps
  pub upward : (s u : ℕ) → s < a.steps → a.hook s ≡ from u → u < s
  pub ordered : (s i : ℕ) → i < a.count s → (a.label s i).start < (a.label s i).end
  pub ascending : (s i j : ℕ) → i < j → j < a.count s → (a.label s i).start < (a.label s j).start
  pub laminar : (s i u j : ℕ) → i < a.count s → j < a.count u
      → (a.label s i ≡ a.label u j) ⊎ Inside (a.label s i) (a.label u j) ⊎ Inside (a.label u j) (a.label s i) ⊎ Apart (a.label s i) (a.label u j)

-- What the waiting table rests on: there are no more calls than an index has room for, calls and the records of an ending ascend by start, what ends
-- a wait is ordered and lies inside a call within which it starts, no boarding starts where a cancellation does, each start has one of so many entries, and the times of these do not descend.
pub record Sound (w : Traffic) (entries : ℕ) : Type 0 where
  pub few : w.calls.count ≤ most_labels
  pub calls_ascend : (i j : ℕ) → i < j → j < w.calls.count → (w.calls.label i).start < (w.calls.label j).start
  pub ended_ascend : (e : Ending) (i j : ℕ) → i < j → j < (w.ended e).count → ((w.ended e).label i).start < ((w.ended e).label j).start
  pub ended_ordered : (e : Ending) (j : ℕ) → j < (w.ended e).count → ((w.ended e).label j).start < ((w.ended e).label j).end
  pub whole : (i : ℕ) (e : Ending) (j : ℕ) → i < w.calls.count → j < (w.ended e).count → (w.calls.label i).start < ((w.ended e).label j).start
      → ((w.ended e).label j).start < (w.calls.label i).end → Inside ((w.ended e).label j) (w.calls.label i)
  pub apart : (j k : ℕ) → j < (w.ended board).count → k < (w.ended cancel).count → ((w.ended board).label j).start ≢ ((w.ended cancel).label k).start
  pub calls_timed : (i : ℕ) → i < w.calls.count → (w.calls.label i).start < entries
  pub ended_timed : (e : Ending) (j : ℕ) → j < (w.ended e).count → ((w.ended e).label j).start < entries
  pub forward : (m n : ℕ) → m ≤ n → n < entries → w.time m ≤ w.time n

-- The figures with one call more, which an ending ends after a wait of d.
abbrev pub one_ended : Ending → ℕ → Figures → Figures
one_ended e d f =
    record { calls = f.calls + 1; boarded = f.boarded + of_ending 1 0 e; cancelled = f.cancelled + of_ending 0 1 e; left_open = f.left_open; total = f.total + d; longest = max f.longest d; over = f.over + 1 }

-- The figures with one call more, which is open.
abbrev pub one_open : Figures → Figures
one_open f =
    record { calls = f.calls + 1; boarded = f.boarded; cancelled = f.cancelled; left_open = f.left_open + 1; total = f.total; longest = f.longest; over = f.over }
