-- `roadthrum_c::roadthrum_evidence` meets its contract: the page that the inner call gave is passed on.
use Rattle.roadthrum_c.proofs.Passing.{to_number, passed_on}
use Rattle.roadthrum_c.proofs.roadthrum_evidence.Goals as goal

pub numbers-requires : goal.numbers-requires
numbers-requires c = to_number c.evidence.ensures

pub returns : goal.returns
returns c = passed_on c.evidence.ensures c.numbers.ensures
