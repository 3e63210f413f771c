-- `draft::shuts` meets its contract: a `]` stands where the byte that is looked up is one.
use Rattle.std.proofs.Common.{refl}
use Rattle.draft.proofs.Closing.{look_shuts}
use Rattle.draft.proofs.shuts.Goals as goal

pub returns : goal.returns
returns c = rw c.eq.ensures (look_shuts c.args.text.now c.args.at c.get.result _ c.get.ensures.lookup.3 refl)
