-- `draft::ends` meets its contract: a path can end where no byte can be looked up or where it is `]`.
use Rattle.std.proofs.Common.{rules, tests}
use Rattle.draft.proofs.Closing.{look_stops}
use Rattle.draft.proofs.ends.Goals as goal

pub returns : goal.returns
returns c = look_stops c.args.text.now c.args.at c.get.result _ c.get.ensures.lookup.3 _ c.is_none_or.ensures (λ x k. search (rules, tests))
