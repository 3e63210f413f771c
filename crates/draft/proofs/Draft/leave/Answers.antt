-- `draft::Draft::leave` meets its contract: what the test for `]` says decides it.
use Rattle.std.proofs.Common.{refl, arith}
use Rattle.meaning.proofs.Decide.{if_true, if_false}
use Rattle.draft.specs.Drafts.{moved}
use Rattle.draft.specs.Steps.{shut, unshut}
use Rattle.draft.proofs.Bytes.{byte_is}
use Rattle.draft.proofs.Draft.leave.Goals as goal

pub returns-then-not-shuts-clause-left : goal.returns-then-not-shuts-clause-left
returns-then-not-shuts-clause-left c = rw (← c.from.ensures) (unshut (if_false c.shuts.ensures c.if-not-shuts.true))

pub overflow_add-self : goal.overflow_add-self
overflow_add-self c = omega (arith, (byte_is c.args.text.now c.from.result 93 _ (if_true c.shuts.ensures c.if-not-shuts.false)).0)

pub returns-clause-left : goal.returns-clause-left
unfolding moved
returns-clause-left c = shut (rw (← c.from.ensures) (if_true c.shuts.ensures c.if-not-shuts.false)) refl
