-- What keeps the loop: the number asked for is at least `low`, and `low` is at most `high`.
use Rattle.std.proofs.Common.{◌-◌, ◌≤◌}
use Rattle.label.specs.Started.{Between}
use Rattle.label.proofs.started_from.Given as goal

abbrev pub invariant-loop-high : goal.invariant-loop-high
invariant-loop-high l = record { between : Between l.s l.at l.n l.v l.low l.n; onward : l.from ≤ l.low; ordered : l.low ≤ l.high }

abbrev pub decreases-loop-high : goal.decreases-loop-high
decreases-loop-high l = l.n - l.high
