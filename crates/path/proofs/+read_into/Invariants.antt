-- What falls from call to call and from turn to turn is the bytes left. What keeps the loop: from where it is, the drafts are reached that a
-- path reaches from where the call began.
use Rattle.std.proofs.Common.{◌-◌, length}
use Rattle.path.proofs.PathLoop.{Going}
use Rattle.path.proofs.+read_into.Given as goal

abbrev pub decreases-read_into : goal.decreases-read_into
decreases-read_into l = length l.text.now - l.draft.now.at

abbrev pub invariant-loop-me : goal.invariant-loop-me
invariant-loop-me l = Going l.text l.fn.hang l.depth l.fn.draft l.draft

abbrev pub decreases-loop-me : goal.decreases-loop-me
decreases-loop-me l = length l.text - l.draft.at
