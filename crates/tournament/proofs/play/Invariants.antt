-- What keeps the loop of `play`: the nodes from i on hold the lesser of their two.
use Rattle.tournament.proofs.Building.{Built}
use Rattle.tournament.proofs.play.Given as goal

abbrev pub invariant-loop-i : goal.invariant-loop-i
invariant-loop-i l = Built l.m l.fn.tree l.i l.tree
