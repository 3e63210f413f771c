-- What keeps the loop: the records of the first steps are written, with room for a blank or the line feed behind them, and the offsets and the
-- positions of the other steps are left.
use Rattle.std.proofs.Common.{◌+◌, ◌≤◌, ◌≡◌, length, drop}
use Rattle.meaning.specs.Day.{label_at}
use Rattle.meaning.specs.Bytes.{at}
use Rattle.lines.proofs.StepLaws.{LineBegun, row_of}
use Rattle.lines.proofs.Line.of_row.Given as goal

abbrev pub invariant-loop-s : goal.invariant-loop-s
invariant-loop-s l = record {
  begun : LineBegun (λ s. label_at l.index (at l.offsets s) (at l.rows (l.from + s))) l.line l.s-iterator.count;
  within : l.s-iterator.count ≤ length l.offsets;
  offsets_left : l.s-iterator.iter.a.rest.now ≡ drop l.s-iterator.count l.offsets;
  row_left : l.s-iterator.iter.b.rest.now ≡ drop l.s-iterator.count (row_of l.rows l.from (length l.offsets));
}
