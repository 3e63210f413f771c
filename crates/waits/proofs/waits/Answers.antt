-- `waits` meets its contract: each part's promise is a part of the call's.
use Rattle.std.proofs.lemmas.Result.{err_from_is_err_and}
use Rattle.waits.proofs.Waiting.{refuse_index, tabled_by}
use Rattle.waits.proofs.waits.Goals as goal

pub returns-in_err-day : goal.returns-in_err-day
returns-in_err-day c =
    let p = err_from_is_err_and c.from_residual.result c.from_residual.ensures.1 in
    rw (p.1, p.2) (refuse_index c.args.index.now c.args.times.now _ c.in_err-day.ensures.judged)

pub returns : goal.returns
returns c =
    let judged = rw c.in_ok-day.ensures.same at c.table_of.ensures.judged in
    let figured = rw c.in_ok-day.ensures.same at c.table_of.ensures.figured in
    tabled_by c.args.index.now c.args.times.now c.in_ok-day.ensures.judged c.table_of.result judged figured
