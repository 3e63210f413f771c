-- The bodies that are looked up make the day's traffic, which is sound where nothing is refused.
use Rattle.std.proofs.Common.{rules}
use Rattle.meaning.specs.Refusals.{Clear, times_table}
use Rattle.waits.proofs.Waiting.{bodies_sound, figured_so}
use Rattle.waits.proofs.table_of.Goals as goal

pub tally-requires : goal.tally-requires
tally-requires c =
    let b = c.args.day.index.now in
    let timed : Clear (times_table b c.args.times.now) = search rules in
    bodies_sound b c.args.times.now c.args.day.lawful timed c.lookup.ensures c.lookup-2.ensures c.lookup-3.ensures

pub returns-clause-figured : goal.returns-clause-figured
returns-clause-figured c =
    let b = c.args.day.index.now in
    let timed : Clear (times_table b c.args.times.now) = search rules in
    figured_so b c.args.times.now c.args.day.lawful timed c.lookup.ensures c.lookup-2.ensures c.lookup-3.ensures c.tally.result c.tally.ensures
