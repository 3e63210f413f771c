-- What keeps the loop of `first_places`: the first r lists have their places.
use Rattle.order.specs.Standing.{Filled}
use Rattle.order.proofs.walk.first_places.Given as goal

abbrev pub invariant-loop-r : goal.invariant-loop-r
invariant-loop-r l = Filled l.contents.index.now l.r l.places
