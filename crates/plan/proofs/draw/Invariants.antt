-- What keeps the loop: the steps before `s` are in the array, blank entries stand behind them, and the first unknown of these steps is told.
use Rattle.plan.specs.Drawn.{Asks}
use Rattle.plan.proofs.Drawing.{Drawing}
use Rattle.plan.proofs.draw.Given as goal

abbrev pub invariant-loop-s : goal.invariant-loop-s
invariant-loop-s l = (a : Asks l.text l.question) → Drawing l.day.index.now a.writes.tree l.s l.steps l.unknown
