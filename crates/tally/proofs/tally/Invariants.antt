-- What keeps the loop of `tally`: before call i the figures are those of the calls before it, and no boarding or cancellation that is passed
-- starts after it.
use Rattle.std.proofs.Common.{◌≡◌}
use Rattle.tally.proofs.Turning.{Turning}
use Rattle.tally.proofs.tally.Given as goal

abbrev pub invariant-loop-i : goal.invariant-loop-i
invariant-loop-i l = record {
  boardings : l.boardings.body.now ≡ l.boards;
  cancellations : l.cancellations.body.now ≡ l.cancels;
  turn : Turning l.calls l.boards l.cancels l.times l.figures l.boardings.passed l.cancellations.passed l.i;
}
