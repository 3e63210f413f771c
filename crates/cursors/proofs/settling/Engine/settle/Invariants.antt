-- What keeps the loop of `settle`: the cursors below step s are settled, and no pick lies before any of them. What falls is what is left of
-- the lists, and then the steps to come.
use Rattle.meaning.specs.Bytes.{at}
use Rattle.cursors.specs.Plan.{plan_of}
use Rattle.cursors.proofs.SettleTurns.{SettleTurn, μ}
use Rattle.cursors.proofs.settling.Engine.settle.Given as goal

abbrev pub invariant-loop-s : goal.invariant-loop-s
invariant-loop-s l = SettleTurn (plan_of l.self.index.now l.self.plan.now) (at l.initial.pos) l.pos l.s

abbrev pub decreases-loop-s : goal.decreases-loop-s
decreases-loop-s l = μ (plan_of l.self.index.now l.self.plan.now) l.pos l.s
