-- `pass` meets its contract: the list's place moves on by a label, and the least of the keys then names what comes next.
use Rattle.order.proofs.Naming.{names_of}
use Rattle.order.proofs.Passing.{passed_standing}
use Rattle.order.proofs.walk.Walk.pass.Goals as goal

pub comes_next-requires-clause-names : goal.comes_next-requires-clause-names
comes_next-requires-clause-names c =
    let w = c.args.self.now.standing in
    names_of _ _ c.put-least.new.self _ w.ascend w.placed.few (rw c.put-least.ensures.set (passed_standing _ _ _ _ w c.requires _ c.key_at.ensures).keyed) c.put-least.ensures.least
