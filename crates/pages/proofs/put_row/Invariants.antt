-- What keeps the loop of `put_row`: the first i positions are written.
use Rattle.std.proofs.Common.{◌≡◌, ℕ, ◌<◌}
use Rattle.meaning.specs.Bytes.{at}
use Rattle.pages.proofs.put_row.Given as goal

abbrev pub invariant-loop-i : goal.invariant-loop-i
invariant-loop-i l = (k : ℕ) → k < l.i → at l.row k ≡ at l.part k
