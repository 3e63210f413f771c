-- `check` meets its contract: each part gives its rows of the table, and rests on what the parts before it have left.
use Rattle.std.proofs.Common.{refl, inl, inr}
use Rattle.meaning.proofs.Decide.{if_true, if_false}
use Rattle.table.proofs.TableLaws.{placed_of}
use Rattle.lists.proofs.Listing.{ordered_of}
use Rattle.day.proofs.CheckLaws.{lists_refuse, none_refuses}
use Rattle.day.proofs.check.Goals as goal

pub invariant_of-contents : goal.invariant_of-contents
invariant_of-contents c = record { placed = placed_of _ c.in_ok-check.ensures }

pub returns-then-lists_wrong : goal.returns-then-lists_wrong
returns-then-lists_wrong c = lists_refuse c.args.index.now 5 c.in_ok-check.ensures (inl (if_true c.lists_wrong.ensures c.if-lists_wrong.true, refl))

pub nesting_wrong-requires : goal.nesting_wrong-requires
nesting_wrong-requires c = ordered_of _ (if_false c.lists_wrong.ensures c.if-lists_wrong.false)

pub returns-then-nesting_wrong : goal.returns-then-nesting_wrong
returns-then-nesting_wrong c =
    lists_refuse c.args.index.now 6 c.in_ok-check.ensures (inr (if_false c.lists_wrong.ensures c.if-lists_wrong.false, inl (if_true c.nesting_wrong.ensures c.if-nesting_wrong.true, refl)))

pub returns : goal.returns
returns c = none_refuses c.args.index.now c.in_ok-check.ensures (if_false c.lists_wrong.ensures c.if-lists_wrong.false, (if_false c.nesting_wrong.ensures c.if-nesting_wrong.false, tt))
