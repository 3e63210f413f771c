-- What keeps the loop: whether one of the entries up to the first of what is left is smaller than the one before is known.
use Rattle.std.proofs.Common.{◌≡◌, ◌+◌, ◌-◌, ◌≤◌, length, drop}
use Rattle.std.specs.Slice.Iter.{windows_size, windows_rest}
use Rattle.meaning.specs.Answers.{Decides}
use Rattle.times.proofs.Looking.{DescendTo}
use Rattle.times.proofs.descend.Given as goal

abbrev pub invariant-loop-pair : goal.invariant-loop-pair
invariant-loop-pair l =
    let rest = windows_rest l.pair-iterator in
    let i = length l.times - length rest in
    (windows_size l.pair-iterator ≡ 2) × (length rest ≤ length l.times) × Decides (DescendTo l.times (i + 1)) l.smaller × (rest ≡ drop i l.times)
