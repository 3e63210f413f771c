-- `last_page` meets its contract: each list of the plan is small, that of the returned step too.
use Rattle.std.proofs.Common.{arith}
use Rattle.pages.proofs.last_page.Goals as goal

pub overflow_cast-result : goal.overflow_cast-result
overflow_cast-result c =
    let small = c.requires.small in
    record { fits = omega (arith, small c.args.plan.now.returned c.requires.one, small 0 (omega (arith, c.requires.one))) }
