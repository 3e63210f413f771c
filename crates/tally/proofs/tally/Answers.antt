-- `tally` meets its contract: a turn of its loop is a lemma of Turning.
use Rattle.std.proofs.Common.{arith, length, subst, ◌/◌}
use Rattle.meaning.specs.Waits.{board, cancel}
use Rattle.label.specs.Started.{Started}
use Rattle.tally.proofs.Turning.{turning_begin, call_at, passed_between, whole_of, turning_small, turning_timed, turning_on}
use Rattle.tally.proofs.tally.Goals as goal

pub new-boardings-requires : goal.new-boardings-requires
new-boardings-requires c = c.requires.ended_ascend board

pub new-cancellations-requires : goal.new-cancellations-requires
new-cancellations-requires c = c.requires.ended_ascend cancel

pub loop-i-init : goal.loop-i-init
loop-i-init c = record {
  boardings = cc;
  cancellations = cc;
  turn = rw (c.new-boardings.ensures.passed, c.new-cancellations.ensures.passed) (turning_begin _ _ _ _ _ c.none-figures.ensures);
}

pub look-board-requires-clause-passed : goal.look-board-requires-clause-passed
look-board-requires-clause-passed c =
    let call = c.label_at-call in
    rw c.loop-i.invariant.boardings (passed_between c.loop-i.invariant.turn.boards_passed (omega arith) call.result (call_at c.args.calls.now _ c.loop-i.i call.ensures (omega arith)))

pub look-board-requires-clause-whole : goal.look-board-requires-clause-whole
look-board-requires-clause-whole c =
    let a = c.args in
    rw c.loop-i.invariant.boardings (whole_of a.calls.now a.boards.now a.cancels.now a.times.now c.requires board c.loop-i.i (omega arith) c.label_at-call.result (call_at a.calls.now _ c.loop-i.i c.label_at-call.ensures (omega arith)))

pub look-cancel-requires-clause-passed : goal.look-cancel-requires-clause-passed
look-cancel-requires-clause-passed c =
    let call = c.label_at-call in
    rw c.loop-i.invariant.cancellations (passed_between c.loop-i.invariant.turn.cancels_passed (omega arith) call.result (call_at c.args.calls.now _ c.loop-i.i call.ensures (omega arith)))

pub look-cancel-requires-clause-whole : goal.look-cancel-requires-clause-whole
look-cancel-requires-clause-whole c =
    let a = c.args in
    rw c.loop-i.invariant.cancellations (whole_of a.calls.now a.boards.now a.cancels.now a.times.now c.requires cancel c.loop-i.i (omega arith) c.label_at-call.result (call_at a.calls.now _ c.loop-i.i c.label_at-call.ensures (omega arith)))

pub add-figures-requires-clause-small : goal.add-figures-requires-clause-small
add-figures-requires-clause-small c = turning_small _ _ _ _ c.requires c.loop-i.invariant.turn (omega arith)

pub add-figures-requires-clause-timed : goal.add-figures-requires-clause-timed
add-figures-requires-clause-timed c =
    let call = c.label_at-call in
    let first_board = rw c.loop-i.invariant.boardings at c.look-board.ensures.first in
    let first_cancel = rw c.loop-i.invariant.cancellations at c.look-cancel.ensures.first in
    turning_timed _ _ _ _ c.requires c.loop-i.invariant.turn (omega arith) call.result (call_at c.args.calls.now _ c.loop-i.i call.ensures (omega arith)) _ _ first_board first_cancel c.decide.result c.decide.ensures

-- The place among the cancellations that the next turn begins with is the one that was searched for, whatever it is read from.
pub loop-i-preserved : goal.loop-i-preserved
loop-i-preserved c =
    let call = c.label_at-call in
    let first_board = rw c.loop-i.invariant.boardings at c.look-board.ensures.first in
    let first_cancel = rw c.loop-i.invariant.cancellations at c.look-cancel.ensures.first in
    let passed_boards = rw c.loop-i.invariant.boardings at c.look-board.ensures.passed in
    let passed_cancels = rw c.loop-i.invariant.cancellations at c.look-cancel.ensures.passed in
    record {
      boardings = cc;
      cancellations = cc;
      turn = turning_on _ _ _ _ c.requires c.loop-i.invariant.turn (omega arith) call.result (call_at c.args.calls.now _ c.loop-i.i call.ensures (omega arith)) _ _ first_board first_cancel c.decide.result c.decide.ensures _ c.add-figures.ensures.value c.add-figures.ensures.most _ _ passed_boards (subst (Started c.args.cancels.now 0 (length c.args.cancels.now / 8) call.result.start) (cc) passed_cancels) _ (omega arith);
    }
