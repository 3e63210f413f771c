-- What keeps the loop: the sweep stands between two turns, and the open records stand in the table.
use Rattle.std.proofs.Common.{◌≡◌}
use Rattle.day.proofs.Rounds.{Round, weight}
use Rattle.day.proofs.sweep.nesting_wrong.Given as goal

abbrev pub invariant-turns : goal.invariant-turns
invariant-turns l = record {
  index : l.walk.index.now ≡ l.contents.index.now;
  round : Round l.contents.index.now l.walk.places l.walk.keys l.coming l.table l.depth;
}

abbrev pub decreases-turns : goal.decreases-turns
decreases-turns l = weight l.contents.index.now l.walk.places l.depth
