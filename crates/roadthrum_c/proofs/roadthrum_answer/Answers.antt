-- `roadthrum_c::roadthrum_answer` meets its contract: the page that the inner call gave is passed on.
use Rattle.roadthrum_c.proofs.Passing.{to_number, passed_on}
use Rattle.roadthrum_c.proofs.roadthrum_answer.Goals as goal

pub numbers-requires : goal.numbers-requires
numbers-requires c = to_number c.answer.ensures

pub returns : goal.returns
returns c = passed_on c.answer.ensures c.numbers.ensures
