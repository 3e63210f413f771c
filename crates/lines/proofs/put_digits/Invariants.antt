-- What keeps the loop: the digits that are left, with those that are done behind them, are the number's.
use Rattle.std.proofs.Common.{◌≡◌, ◌++◌, length, drop}
use Rattle.meaning.specs.Printing.{digits}
use Rattle.lines.proofs.put_digits.Given as goal

abbrev pub invariant-loop-place : goal.invariant-loop-place
invariant-loop-place l = digits l.place l.rest ++ drop l.place l.bytes ≡ digits (length l.bytes) l.n
