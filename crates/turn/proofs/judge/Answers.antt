-- `judge` meets its contract: each way out is a case of what a turn decides.
use Rattle.std.proofs.Common.{refl, sym, ap}
use Rattle.turn.specs.declared.Turn.TheVariants.{Closed}
use Rattle.meaning.proofs.Decide.{if_true, if_false}
use Rattle.turn.specs.Sweep.{closes, refuses, opens}
use Rattle.turn.proofs.judge.Goals as goal

pub returns-then-closes-clause-turned : goal.returns-then-closes-clause-turned
returns-then-closes-clause-turned c = closes _ c.in-Some.is (if_true c.closes.ensures c.if-closes.true) (ap Closed (sym c.in-Some.is)) refl refl

pub returns-then-refused-clause-turned : goal.returns-then-refused-clause-turned
returns-then-refused-clause-turned c = refuses _ c.in-Some.is (if_false c.closes.ensures c.if-closes.false) (if_true c.refused.ensures c.if-refused.true) refl refl refl

pub returns-clause-turned : goal.returns-clause-turned
returns-clause-turned c =
    opens _ _ c.in-Some.is (if_false c.closes.ensures c.if-closes.false) (if_false c.refused.ensures c.if-refused.false) c.pass-next.ensures.handed refl
