-- `settle` meets its contract: each way round its loop is a lemma of SettleTurns.
use Rattle.std.proofs.Common.{arith}
use Rattle.cursors.specs.Cursors.{found, ended}
use Rattle.cursors.proofs.SettleTurns.{turn_begin, turn_end, turn_none, turn_free, turn_jump, raised, turn_back, turn_on, on_less, jump_less, back_less, up_few, above_small, above_held, ascends}
use Rattle.cursors.proofs.settling.Engine.settle.Goals as goal

pub loop-s-init : goal.loop-s-init
loop-s-init c = turn_begin c.requires.planned _ _ (omega arith) c.requires.begins c.requires.unbroken

pub returns-then-step-p-clause-settled : goal.returns-then-step-p-clause-settled
returns-then-step-p-clause-settled c = ended (turn_none c.requires.planned c.loop-s.invariant c.loop-s-test.true c.if-step-p.true)

pub loop-s-smaller-in-None : goal.loop-s-smaller-in-None
loop-s-smaller-in-None c = on_less c.requires.planned c.loop-s.invariant c.loop-s-test.true c.if-step-p.false

pub loop-s-preserved-in-None : goal.loop-s-preserved-in-None
loop-s-preserved-in-None c = turn_free c.requires.planned c.loop-s.invariant c.loop-s-test.true c.if-step-p.false c.in-None.is

-- The step above is before step s, and so below 32.
pub bounds-pos-u : goal.bounds-pos-u
bounds-pos-u c = up_few c.requires.planned c.loop-s.invariant c.loop-s-test.true c.if-step-p.false c.in-Some.is c.from-u.ensures

pub bounds-steps-u : goal.bounds-steps-u
bounds-steps-u c = up_few c.requires.planned c.loop-s.invariant c.loop-s-test.true c.if-step-p.false c.in-Some.is c.from-u.ensures

pub bounds-pos-u-in-Late : goal.bounds-pos-u-in-Late
bounds-pos-u-in-Late c = up_few c.requires.planned c.loop-s.invariant c.loop-s-test.true c.if-step-p.false c.in-Some.is c.from-u.ensures

pub overflow_add-pos : goal.overflow_add-pos
overflow_add-pos c = record { fits = omega (arith, above_small c.requires.planned c.loop-s.invariant c.loop-s-test.true c.if-step-p.false c.in-Some.is c.from-u.ensures) }

pub look-requires-clause-above : goal.look-requires-clause-above
look-requires-clause-above c = above_held c.requires.planned c.loop-s.invariant c.loop-s-test.true c.if-step-p.false c.in-Some.is c.from-u.ensures

pub look-requires-clause-ascends : goal.look-requires-clause-ascends
look-requires-clause-ascends c = ascends c.requires.planned c.loop-s.invariant c.loop-s-test.true c.if-step-p.false c.in-Some.is c.from-u.ensures

pub loop-s-smaller-in-Early : goal.loop-s-smaller-in-Early
loop-s-smaller-in-Early c =
    let see = c.in-Early.ensures in
    jump_less c.requires.planned c.loop-s.invariant c.loop-s-test.true c.if-step-p.false c.in-Some.is c.from-u.ensures _ (omega (arith, raised c.requires.planned c.loop-s.invariant c.loop-s-test.true c.if-step-p.false c.in-Some.is c.from-u.ensures see.0 see.1))

pub loop-s-preserved-in-Early : goal.loop-s-preserved-in-Early
loop-s-preserved-in-Early c =
    let see = c.in-Early.ensures in
    turn_jump c.requires.planned c.loop-s.invariant c.loop-s-test.true c.if-step-p.false c.in-Some.is c.from-u.ensures see.0 see.1 _ (omega (arith, raised c.requires.planned c.loop-s.invariant c.loop-s-test.true c.if-step-p.false c.in-Some.is c.from-u.ensures see.0 see.1)) (omega arith)

pub loop-s-smaller-in-Late : goal.loop-s-smaller-in-Late
loop-s-smaller-in-Late c = back_less c.requires.planned c.loop-s.invariant c.loop-s-test.true c.if-step-p.false c.in-Some.is c.from-u.ensures _ _ (omega arith)

pub loop-s-preserved-in-Late : goal.loop-s-preserved-in-Late
loop-s-preserved-in-Late c =
    turn_back c.requires.planned c.loop-s.invariant c.loop-s-test.true c.if-step-p.false c.in-Some.is c.from-u.ensures _ _ (omega arith) (omega arith) c.in-Late.ensures

pub loop-s-smaller : goal.loop-s-smaller
loop-s-smaller c = on_less c.requires.planned c.loop-s.invariant c.loop-s-test.true c.if-step-p.false

pub loop-s-preserved : goal.loop-s-preserved
loop-s-preserved c =
    let see = c.in-Touching.ensures in
    turn_on c.requires.planned c.loop-s.invariant c.loop-s-test.true c.if-step-p.false c.in-Some.is c.from-u.ensures see.0 see.1

pub returns-clause-settled : goal.returns-clause-settled
returns-clause-settled c = found (turn_end c.requires.planned c.loop-s.invariant c.loop-s-test.false)
