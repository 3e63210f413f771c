-- `closes` meets its contract: the innermost record's end is tested, where there is one.
use Rattle.std.proofs.Common.{arith}
use Rattle.meaning.specs.Answers.{fails}
use Rattle.meaning.proofs.Decide.{decides_as, lt_decides}
use Rattle.turn.proofs.closes.Goals as goal

pub returns-in_default : goal.returns-in_default
returns-in_default c = fails (λ h. omega (arith, h.0, c.in_default.ensures.none))

pub returns : goal.returns
returns c = let e = c.in-Some.ensures in rw (← e.last) (decides_as (λ h. (e.some, h)) (λ h. h.1) (lt_decides _ _))
