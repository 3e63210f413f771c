-- `lists::next_low` meets its contract: each way out is a case of `Looked`.
use Rattle.std.proofs.Common.{arith, inl, inr}
use Rattle.lists.specs.Ordering.{wrong_label, right_label}
use Rattle.lists.proofs.next_low.Goals as goal
use Rattle.lists.proofs.next_low.Goals.{else-low-label-via-then-low-label+else-label, else-low-label-via-else-low-label}

pub returns-then-label : goal.returns-then-label
returns-then-label c = right_label (omega arith) (omega arith)

pub returns-else-low-label : goal.returns-else-low-label
returns-else-low-label c =
    elim c.else-low-label.branch [
      | else-low-label-via-then-low-label+else-label w ↦ wrong_label (inl (omega arith))
      | else-low-label-via-else-low-label w ↦ wrong_label (inr (omega arith))
    ]
