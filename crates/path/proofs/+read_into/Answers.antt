-- `path::read_into` meets its contract.
use Rattle.std.proofs.Common.{arith}
use Rattle.meaning.proofs.Decide.{if_true, if_false}
use Rattle.draft.specs.Drafts.{moved}
use Rattle.path.proofs.PathLoop.{goes_on, opens, opens_not, nothing_read, no_start, start, bracket_ready, next_ready, bracket_turn, bracket_empty, bracket_open, next_on, next_missing, ended}
use Rattle.path.proofs.+read_into.Goals as goal

pub returns-in_err-step : goal.returns-in_err-step
returns-in_err-step t c = nothing_read _ _ c.from_residual.ensures.0 (no_start c.in_err-step.ensures.read)

pub loop-me-init : goal.loop-me-init
loop-me-init t c = start c.requires c.in_ok-step.ensures.read

pub bounds-text-from : goal.bounds-text-from
bounds-text-from t c = omega (arith, goes_on c.args.text.now c.from.result (if_false c.ends.ensures c.loop-me-test.true))

pub read_into-requires : goal.read_into-requires
unfolding moved
read_into-requires t c =
    let g = c.loop-me.invariant in
    let on = goes_on c.args.text.now c.from.result (if_false c.ends.ensures c.loop-me-test.true) in
    (omega (arith, c.decreases, on, g.low), bracket_ready g c.requires.short (omega (arith, on)) (omega (arith, g.shallow)) (λ k. omega (arith, g.mine)))

pub returns-in_err-read_into : goal.returns-in_err-read_into
unfolding moved
returns-in_err-read_into t c =
    let b = opens c.args.text.now c.loop-me.draft.at (if_false c.ends.ensures c.loop-me-test.true) c.from.ensures c.from-in-loop-me.ensures c.if-text-from-eq91.true in
    nothing_read _ _ c.from_residual-in_err-read_into.ensures.0 (bracket_empty c.loop-me.invariant b c.in_err-read_into.ensures (omega arith) (omega arith))

pub loop-me-smaller-in-Continue-branch-3 : goal.loop-me-smaller-in-Continue-branch-3
unfolding moved
loop-me-smaller-in-Continue-branch-3 t c =
    let none = if_false c.ends.ensures c.loop-me-test.true in
    let b = opens c.args.text.now c.loop-me.draft.at none c.from.ensures c.from-in-loop-me.ensures c.if-text-from-eq91.true in
    let s = bracket_turn c.loop-me.invariant b c.in_ok-read_into.ensures c.in_ok-leave.ensures.left (omega arith) (omega arith) in
    omega (arith, goes_on c.args.text.now c.from.result none, s.0)

pub loop-me-preserved-in-Continue-branch-3 : goal.loop-me-preserved-in-Continue-branch-3
unfolding moved
loop-me-preserved-in-Continue-branch-3 t c =
    let b = opens c.args.text.now c.loop-me.draft.at (if_false c.ends.ensures c.loop-me-test.true) c.from.ensures c.from-in-loop-me.ensures c.if-text-from-eq91.true in
    (bracket_turn c.loop-me.invariant b c.in_ok-read_into.ensures c.in_ok-leave.ensures.left (omega arith) (omega arith)).1

pub returns-in_err-leave : goal.returns-in_err-leave
unfolding moved
returns-in_err-leave t c =
    let b = opens c.args.text.now c.loop-me.draft.at (if_false c.ends.ensures c.loop-me-test.true) c.from.ensures c.from-in-loop-me.ensures c.if-text-from-eq91.true in
    nothing_read _ _ c.from_residual-in_err-leave.ensures.0 (bracket_open c.loop-me.invariant b c.in_ok-read_into.ensures c.in_err-leave.ensures.left (omega arith) (omega arith))

pub step-requires-else-text-from-eq91 : goal.step-requires-else-text-from-eq91
step-requires-else-text-from-eq91 t c = next_ready c.loop-me.invariant c.requires.short

pub loop-me-smaller : goal.loop-me-smaller
loop-me-smaller t c =
    let none = if_false c.ends.ensures c.loop-me-test.true in
    let b = opens_not c.args.text.now c.loop-me.draft.at c.from-in-loop-me.ensures c.if-text-from-eq91.false in
    let s = next_on c.loop-me.invariant (rw c.from.ensures at none) b c.in_ok-step-2.ensures.read in
    omega (arith, goes_on c.args.text.now c.from.result none, s.0)

pub loop-me-preserved : goal.loop-me-preserved
loop-me-preserved t c =
    let none = if_false c.ends.ensures c.loop-me-test.true in
    let b = opens_not c.args.text.now c.loop-me.draft.at c.from-in-loop-me.ensures c.if-text-from-eq91.false in
    (next_on c.loop-me.invariant (rw c.from.ensures at none) b c.in_ok-step-2.ensures.read).1

pub returns-in_err-step-2 : goal.returns-in_err-step-2
returns-in_err-step-2 t c =
    let none = if_false c.ends.ensures c.loop-me-test.true in
    let b = opens_not c.args.text.now c.loop-me.draft.at c.from-in-loop-me.ensures c.if-text-from-eq91.false in
    nothing_read _ _ c.from_residual-in_err-step-2.ensures.0 (next_missing c.loop-me.invariant (rw c.from.ensures at none) b c.in_err-step-2.ensures.read)

pub returns : goal.returns
returns t c = ended c.loop-me.invariant (rw c.from.ensures at (if_true c.ends.ensures c.loop-me-test.false))
