-- `plan::draw` meets its contract: a turn ends in one of two ways, with a name that is known or unknown.
use Rattle.std.proofs.Common.{◌<◌, refl, ap, ◌∙◌, arith}
use Rattle.meaning.specs.declared.Question.{Question}
use Rattle.meaning.specs.Notation.{steps}
use Rattle.plan.proofs.Telling.{told_first}
use Rattle.plan.proofs.Drawing.{draw_begin, draw_known, draw_unknown, draw_end, asked_step, found_as}
use Rattle.plan.proofs.draw.Goals as goal

pub loop-s-init : goal.loop-s-init
loop-s-init c = λ a. draw_begin _ _

pub name_of-requires : goal.name_of-requires
name_of-requires c =
    let a = c.requires in
    (asked_step c.args.text.now c.args.question.now a c.loop-s.s (omega (arith, c.loop-s-test.true, ap (λ (q : Question). q.count) a.is))).within

pub loop-s-preserved-in_default : goal.loop-s-preserved-in_default
loop-s-preserved-in_default c = λ a.
    let lt : c.loop-s.s < steps a.writes.tree = omega (arith, c.loop-s-test.true, ap (λ (q : Question). q.count) a.is) in
    let stored = asked_step c.args.text.now c.args.question.now a c.loop-s.s lt in
    draw_unknown (c.loop-s.invariant a) lt (omega (arith, a.few)) stored.hangs _
    (found_as _ (c.name_of.ensures ∙ stored.name) c.in_default.is c.find.ensures) (told_first refl c.or-unknown.ensures (omega arith))

pub loop-s-preserved : goal.loop-s-preserved
loop-s-preserved c = λ a.
    let lt : c.loop-s.s < steps a.writes.tree = omega (arith, c.loop-s-test.true, ap (λ (q : Question). q.count) a.is) in
    let stored = asked_step c.args.text.now c.args.question.now a c.loop-s.s lt in
    draw_known (c.loop-s.invariant a) lt (omega (arith, a.few)) stored.hangs c.in-Some.list c.args.day.lawful
    (found_as _ (c.name_of.ensures ∙ stored.name) c.in-Some.is c.find.ensures)

pub returns : goal.returns
returns c =
    let a = c.requires in
    let e = draw_end (c.loop-s.invariant a) (ap (λ (q : Question). q.count) a.is) c.loop-s-test.false (ap (λ (q : Question). q.returned) a.is) in
    record { writes = a.writes; few = a.few; drawn = e.0; told = e.1 }
