-- `lists::lists_wrong` meets its contract: a list that is wrong is one of refusal 5, and where none is there is nothing of it.
use Rattle.std.proofs.Common.{arith, below_more}
use Rattle.meaning.specs.Answers.{holds, fails}
use Rattle.meaning.proofs.Decide.{if_true, if_false}
use Rattle.lists.proofs.Listing.{unordered_by, none_unordered}
use Rattle.lists.proofs.lists_wrong.Goals as goal

pub returns-then-list_wrong : goal.returns-then-list_wrong
returns-then-list_wrong c = holds (unordered_by _ c.loop-r.r (omega arith) (if_true c.list_wrong.ensures c.if-list_wrong.true))

pub loop-r-preserved : goal.loop-r-preserved
loop-r-preserved c = below_more _ _ c.loop-r.invariant (if_false c.list_wrong.ensures c.if-list_wrong.false)

pub returns : goal.returns
returns c = fails (none_unordered _ (λ r l. c.loop-r.invariant r (omega arith)))
