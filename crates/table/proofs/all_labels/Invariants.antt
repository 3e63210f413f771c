-- What keeps the loop: the rows passed are right, and their labels are counted.
use Rattle.table.proofs.RowLaws.{Counted}
use Rattle.table.proofs.all_labels.Given as goal

abbrev pub invariant-loop-number : goal.invariant-loop-number
invariant-loop-number l = Counted l.index l.number l.labels
