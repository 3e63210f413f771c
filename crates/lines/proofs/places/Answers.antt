-- `lines::places` meets its contract: what the logarithm promises is what the number of digits has to be. Of what number it is, and what the
-- code makes of it, is left to arithmetic, so that code of another form is refused only where it gives another number.
use Rattle.std.proofs.Common.{◌+◌, subst, unwrap_or, arith}
use Rattle.lines.specs.Adding.{Places}
use Rattle.lines.proofs.DigitLaws.{places_of}
use Rattle.lines.proofs.places.Goals as goal

pub returns : goal.returns
returns c =
    let log = c.checked_ilog10 in
    let is : Places c.args.n (1 + unwrap_or log.result 0) =
    places_of c.args.n _ log.result (omega arith) log.ensures.none log.ensures.power_le log.ensures.next_power_gt log.ensures.bound in
    subst (Places c.args.n) (omega arith) is
