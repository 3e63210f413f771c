-- What keeps the loop of `write_page`: `Writing`, with the rows that the promise says.
use Rattle.cursors.specs.Plan.{plan_of}
use Rattle.pages.specs.RowParts.{PartOf}
use Rattle.pages.proofs.Paging.{Writing}
use Rattle.pages.proofs.write_page.Given as goal

abbrev pub invariant-loop-rows : goal.invariant-loop-rows
invariant-loop-rows l =
    let a = plan_of l.engine.index.now l.plan in
    Writing a (PartOf a l.steps.start l.width) l.place l.room l.width l.initial.out l.out l.pos l.rows l.first
