-- `draft::Draft::step` meets its contract: the length of the name says whether a step stands here.
use Rattle.draft.specs.Steps.{missing}
use Rattle.draft.proofs.Lengths.{no_length, some_length, step_taken}
use Rattle.draft.proofs.Draft.step.Goals as goal

pub returns-in_default-clause-read : goal.returns-in_default-clause-read
returns-in_default-clause-read c = missing (no_length (rw c.from.ensures at c.in_default.ensures))

pub returns-clause-read : goal.returns-clause-read
returns-clause-read c = step_taken c.in-Some.length (some_length (rw c.from.ensures at c.in-Some.ensures)) c.add.ensures
