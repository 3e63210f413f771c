-- A row whose field is the name's has the name, and its list is the row's.
use Rattle.std.proofs.Common.{arith, ap}
use Rattle.meaning.specs.Day.{tags}
use Rattle.meaning.proofs.Decide.{if_true}
use Rattle.contents.proofs.lawful.LawfulDay.find.Goals as goal

pub returns-then-is_filled : goal.returns-then-is_filled
returns-then-is_filled c =
    let same = ap (λ i. tags i.now) c.contents-contents.ensures in
    (c.row-row.result.number, (omega (arith, same), cc (if_true c.is_filled.ensures c.if-is_filled.true)), cc)
