-- `lines::Line::push_record` meets its contract: start, colon and end are written one behind the other.
use Rattle.lines.proofs.StepLaws.{record_of}
use Rattle.lines.proofs.Line.push_record.Goals as goal

pub returns : goal.returns
returns c = record_of c.push_number.ensures c.push.ensures c.push_number-2.ensures
