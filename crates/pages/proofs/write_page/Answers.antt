-- `write_page` meets its contract: each way round its loop, and each way out, is a lemma of Paging.
use Rattle.std.proofs.Common.{ℕ, ◌+◌, length, refl, arith, ◌-◌}
use Rattle.cursors.specs.Plan.{plan_of}
use Rattle.cursors.proofs.SettleTurns.{ret_of, ret_few, steps_of}
use Rattle.pages.proofs.Paging.{page_begin, page_done, page_full, page_part, page_as, part_as, settled_found, settled_none, rows_fit, row_on, part_within, small, part_small}
use Rattle.pages.proofs.write_page.Goals as goal

pub loop-rows-init : goal.loop-rows-init
unfolding plan_of
loop-rows-init c = page_begin c.requires.planned.fit _ _ _ _ _ _ (ret_few c.requires.planned) c.start_from-pos.ensures

pub settle-requires-clause-begins : goal.settle-requires-clause-begins
settle-requires-clause-begins c = steps_of _ _ c.loop-rows.invariant.first_le

pub settle-requires-clause-unbroken : goal.settle-requires-clause-unbroken
settle-requires-clause-unbroken c = c.loop-rows.invariant.held

pub settle-requires-2-clause-begins : goal.settle-requires-2-clause-begins
settle-requires-2-clause-begins c = steps_of _ _ c.loop-rows.invariant.first_le

pub settle-requires-2-clause-unbroken : goal.settle-requires-2-clause-unbroken
settle-requires-2-clause-unbroken c = c.loop-rows.invariant.held

pub returns-then-not-settle-clause-paged : goal.returns-then-not-settle-clause-paged
unfolding plan_of
returns-then-not-settle-clause-paged c =
    let w = c.loop-rows.invariant in
    page_as refl refl c.last_page.ensures
    (page_done c.requires.planned.fit w (rows_fit _ _ _ w.n_le) (settled_none c.if-not-settle.ensures.settled refl) _ (omega arith) _)

pub returns-then-not-settle-2-clause-paged : goal.returns-then-not-settle-2-clause-paged
unfolding plan_of
returns-then-not-settle-2-clause-paged c =
    let w = c.loop-rows.invariant in
    page_as refl refl c.last_page-then-not-settle-2.ensures
    (page_done c.requires.planned.fit w (rows_fit _ _ _ w.n_le) (settled_none c.if-not-settle-2.ensures.settled refl) _ (omega arith) _)

pub loop-rows-preserved : goal.loop-rows-preserved
unfolding plan_of
loop-rows-preserved c =
    let w = c.loop-rows.invariant in
    let width : ℕ = c.args.steps.end - c.args.steps.start in
    page_part c.requires.planned.fit c.args.steps.start width w (rows_fit _ _ _ w.n_le) c.settle.new.pos (settled_found c.if-not-settle.ensures.settled refl) (omega arith) c.settle.ensures.long
    c.requires.planned.few (omega (arith, c.requires.within, c.requires.some)) (omega (arith, w.same, rows_fit (c.loop-rows.rows + 1) width (length c.args.out.now) (omega arith)))
    _ _ c.put_row.ensures (part_as c.settle.new.pos _ _ c.args.steps.start width (omega arith) (omega arith)) (omega arith) (omega arith) (omega arith)

pub put_row-requires-clause-within : goal.put_row-requires-clause-within
put_row-requires-clause-within c =
    let width : ℕ = c.args.steps.end - c.args.steps.start in
    part_within _ _ _ _ (omega (arith, row_on c.loop-rows.rows width, rows_fit (c.loop-rows.rows + 1) width (length c.args.out.now) (omega arith), c.loop-rows.invariant.same))

pub put_row-requires-clause-small : goal.put_row-requires-clause-small
put_row-requires-clause-small c =
    part_small c.requires.planned c.settle.new.pos (settled_found c.if-not-settle.ensures.settled refl) _ _ (omega (arith, c.requires.within, c.requires.some))

pub overflow_add-pos : goal.overflow_add-pos
overflow_add-pos c = record { fits = omega (arith, small c.requires.planned c.settle.new.pos (settled_found c.if-not-settle.ensures.settled refl) _ (ret_of c.requires.planned)) }

pub overflow_cast-result : goal.overflow_cast-result
overflow_cast-result c = record { fits = omega (arith, ret_few c.requires.planned, small c.requires.planned c.settle-2.new.pos (settled_found c.if-not-settle-2.ensures.settled refl) _ (ret_of c.requires.planned)) }

pub returns-clause-paged : goal.returns-clause-paged
unfolding plan_of
returns-clause-paged c =
    let w = c.loop-rows.invariant in
    page_full c.requires.planned.fit w (rows_fit _ _ _ w.n_le) c.settle-2.new.pos (settled_found c.if-not-settle-2.ensures.settled refl) _ (omega arith) (omega arith) _
