-- `roadthrum_c::roadthrum_check` meets its contract: what the check answers is the table's verdict.
use Rattle.meaning.specs.Refusals.{clear, given}
use Rattle.roadthrum_c.proofs.roadthrum_check.Goals as goal

pub returns-in-Ok : goal.returns-in-Ok
returns-in-Ok c = clear c.in-Ok.ensures

pub returns-in-Err : goal.returns-in-Err
returns-in-Err c = rw c.from.ensures (given c.in-Err.ensures)
