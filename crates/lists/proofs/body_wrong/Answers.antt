-- `lists::body_wrong` meets its contract: a label that is right keeps the loop, one that is wrong settles it, and the end does otherwise.
use Rattle.meaning.specs.Answers.{holds, fails}
use Rattle.lists.proofs.Looking.{kept_on, kept_wrong, kept_end}
use Rattle.lists.proofs.body_wrong.Goals as goal

pub loop-label-preserved : goal.loop-label-preserved
loop-label-preserved c = kept_on _ _ _ _ c.loop-label.invariant _ _ c.in-Some.ensures.steps c.in-Some-next_low.ensures

pub returns-in-None-next_low : goal.returns-in-None-next_low
returns-in-None-next_low c = holds (kept_wrong _ _ _ _ c.loop-label.invariant _ c.in-Some.ensures.steps c.in-None-next_low.ensures)

pub returns : goal.returns
returns c = fails (kept_end _ _ _ _ c.loop-label.invariant c.in-None.ensures.steps)
