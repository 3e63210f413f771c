-- `least` meets its contract: the root is the least.
use Rattle.std.proofs.Common.{refl, arith}
use Rattle.tournament.proofs.Leaves.{least_of}
use Rattle.tournament.proofs.Tournament.least.Goals as goal

pub returns : goal.returns
returns c = rw (← c.self.view_is) (least_of _ _ _ c.self.invariant (λ _. refl) (λ z. absurd (omega arith)))
