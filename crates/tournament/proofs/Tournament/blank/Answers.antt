-- `blank` meets its contract: all nodes are 0.
use Rattle.tournament.proofs.Leaves.{blank_bracket, blank_leaves}
use Rattle.tournament.proofs.Tournament.blank.Goals as goal

pub invariant_of-result : goal.invariant_of-result
invariant_of-result c = blank_bracket _ _ c.requires

pub returns : goal.returns
returns c = blank_leaves _ c.requires
