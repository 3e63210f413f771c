-- What keeps the loop: none of the first r lists is wrong.
use Rattle.std.proofs.Common.{ℕ, ◌<◌}
use Rattle.meaning.specs.Day.{lists_of}
use Rattle.lists.specs.Ordering.{ListWrong}
use Rattle.lists.proofs.lists_wrong.Given as goal

abbrev pub invariant-loop-r : goal.invariant-loop-r
invariant-loop-r l = (k : ℕ) → k < l.r → ListWrong (lists_of l.contents.index.now) k → ⊥
