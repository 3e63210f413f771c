-- What keeps the loop: the labels before the reader's place are right, and the next has to start at `low` or later.
use Rattle.lists.proofs.Looking.{Kept}
use Rattle.lists.proofs.body_wrong.Given as goal

abbrev pub invariant-loop-label : goal.invariant-loop-label
invariant-loop-label l = Kept l.body l.label-iterator l.low
