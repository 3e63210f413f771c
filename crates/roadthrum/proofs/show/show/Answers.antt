-- `roadthrum::show::show` may make its calls, and ends: a page that leaves a record over names a later place.
use Rattle.std.proofs.Common.{◌<◌, arith, rules}
use Rattle.std.proofs.lemmas.Result.{err_from_is_err_and}
use Rattle.meaning.proofs.Laws.Few.{few_rows}
use Rattle.roadthrum.proofs.Accepted.{accepted, asks, tells, onward}
use Rattle.roadthrum.proofs.Stopped.{shown_given, not_refused}
use Rattle.roadthrum.proofs.show.show.Goals as goal

pub returns-in_err-page : goal.returns-in_err-page
returns-in_err-page g c =
    let p = err_from_is_err_and c.from_residual.result c.from_residual.ensures.1 in rw (p.1, p.2) (shown_given _ _ _ _ _ _ c.in_err-page.ensures)

pub returns-in_err-question : goal.returns-in_err-question
returns-in_err-question g c = absurd (not_refused _ _ _ _ _ _ _ (accepted _ _ _ _ _ _ c.in_ok-page.ensures) c.in_err-question.ensures)

pub print_rows-requires-clause-asked : goal.print_rows-requires-clause-asked
print_rows-requires-clause-asked g c = asks _ _ c.in_ok-question.ensures

pub note_unknown-requires-clause-asked : goal.note_unknown-requires-clause-asked
note_unknown-requires-clause-asked g c = asks _ _ c.in_ok-question.ensures

pub note_unknown-requires-clause-told : goal.note_unknown-requires-clause-told
note_unknown-requires-clause-told g c = tells _ _ _ _ _ _ (accepted _ _ _ _ _ _ c.in_ok-page.ensures)

pub loop-page-smaller : goal.loop-page-smaller
loop-page-smaller g c =
    let later : c.loop-page.place < c.in_ok-page.page.next = onward _ _ _ _ _ _ (accepted _ _ _ _ _ _ c.in_ok-page.ensures) (omega arith) c.if-not-page.false in
    omega (arith, later)

pub loop-page-preserved : goal.loop-page-preserved
loop-page-preserved g c =
    let later : c.loop-page.place < c.in_ok-page.page.next = onward _ _ _ _ _ _ (accepted _ _ _ _ _ _ c.in_ok-page.ensures) (omega arith) c.if-not-page.false in
    record { long = search rules; fits = search rules; few = omega (arith, few_rows c.in_ok-page.ensures, c.loop-page.invariant.few, later) }
