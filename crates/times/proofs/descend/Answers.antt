-- A turn looks at the next two entries, which stand where what is left begins.
use Rattle.std.proofs.Common.{rules, arith, add-zero, ◌+◌, ◌-◌, length}
use Rattle.std.proofs.lemmas.Iterator.{window_more}
use Rattle.std.specs.Slice.Iter.{windows_rest}
use Rattle.times.proofs.Looking.{descend_begin, descend_turn, descend_end}
use Rattle.times.proofs.descend.Goals as goal

pub loop-pair-init : goal.loop-pair-init
loop-pair-init c = (search rules, search rules, descend_begin c.args.times.now _ (search rules), search rules)

pub loop-pair-preserved : goal.loop-pair-preserved
loop-pair-preserved c =
    let times = c.args.times.now in
    let i = length times - length (windows_rest c.loop-pair.pair-iterator) in
    let h = window_more times c.loop-pair.pair-iterator c.next.new.self _ _ c.in-Some.is c.next.ensures.steps (search rules) (search rules) (search rules) in
    let first = simp add-zero at (h.3 0 0 (search rules)) in
    let second = h.3 1 0 (search rules) in
    (search rules, search rules, descend_turn times (i + 1) i _ _ _ (omega arith) second first (omega arith) (omega arith) c.loop-pair.invariant.2, search rules)

pub returns : goal.returns
returns c = descend_end c.args.times.now _ (search rules) c.loop-pair.invariant.2
