-- `roadthrum::show::offsets_of` meets its contract: the closure is called at each step.
use Rattle.std.proofs.Common.{rules}
use Rattle.cursors.specs.Plan.{blank}
use Rattle.roadthrum.proofs.show.offsets_of.Goals as goal

pub returns : goal.returns
returns c = λ s l. let h = c.map.ensures.items.at s blank 0 l in let m = h.2.met in search rules
