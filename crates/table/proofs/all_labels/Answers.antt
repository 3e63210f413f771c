-- A row that is right is counted with its labels.
use Rattle.std.proofs.Common.{arith}
use Rattle.meaning.proofs.Decide.{if_true}
use Rattle.table.proofs.RowLaws.{counted_on}
use Rattle.table.proofs.all_labels.Goals as goal

pub loop-number-preserved : goal.loop-number-preserved
loop-number-preserved c =
    counted_on _ _ _ _ c.loop-number.invariant (omega arith) (if_true c.row_right.ensures c.if-not-row_right.false) c.count-labels.ensures.value c.count-labels.ensures.most
