-- `lines::Line::of_row` meets its contract. Behind the blank, or at the very beginning, a record can be written; behind the loop all steps are
-- written, of which there is at least one.
use Rattle.std.proofs.Common.{rules, ℕ, ◌+◌, ◌≡◌, ◌∙◌, ap₂, subst, List, ◌∷◌, arith}
use Rattle.meaning.specs.declared.Label.{Label}
use Rattle.meaning.specs.Day.{label_at}
use Rattle.meaning.specs.Bytes.{at}
use Rattle.lines.specs.Adding.{AddsRecord, Written}
use Rattle.lines.proofs.StepLaws.{MayWrite, at_step, write_first, write_next, begun_more, begun_room, all_steps, over, line_of}
use Rattle.lines.proofs.Line.of_row.Goals as goal
use Rattle.lines.proofs.Line.of_row.Goals.{then-behind, else-behind}

-- The labels of the row that stands in `rows` from `from` on, step by step.
abbrev labels_of : List ℕ → List ℕ → List ℕ → ℕ → ℕ → Label
labels_of index offsets rows from s = label_at index (at offsets s) (at rows (from + s))

pub loop-s-preserved : goal.loop-s-preserved
loop-s-preserved c =
    let e : c.in-Some.s ≡ c.loop-s.s-iterator.count = search rules in
    let h : c.next.new.self.count ≡ c.loop-s.s-iterator.count + 1 = search rules in
    let f : c.in-Some.offset.now ∷ c.next.new.self.iter.a.rest.now ≡ c.loop-s.s-iterator.iter.a.rest.now = search rules in
    let g : c.in-Some.i.now ∷ c.next.new.self.iter.b.rest.now ≡ c.loop-s.s-iterator.iter.b.rest.now = search rules in
    let x = at_step c.args.offsets.now c.args.rows.now c.args.from c.loop-s.s-iterator.count _ _ _ _ (f ∙ c.loop-s.invariant.offsets_left) (g ∙ c.loop-s.invariant.row_left) in
    let ready : MayWrite (labels_of c.args.index.now c.args.offsets.now c.args.rows.now c.args.from) c.if-behind.line c.loop-s.s-iterator.count =
    elim c.if-behind.branch [
      | then-behind w ↦ rw w.line-is (write_next c.loop-s.invariant.begun (omega arith) w.push.ensures)
      | else-behind w ↦ rw w.line-is (write_first c.loop-s.invariant.begun (omega arith))
    ] in
    let is : c.label_at.result ≡ labels_of c.args.index.now c.args.offsets.now c.args.rows.now c.args.from c.loop-s.s-iterator.count =
    c.label_at.ensures ∙ ap₂ (λ o i. label_at c.args.index.now o i) x.offset_is x.i_is in
    record {
      within = omega (arith, x.within);
      begun = rw h (begun_more ready (subst (λ (l : Label). AddsRecord l c.if-behind.line c.push_record.new.self) is c.push_record.ensures));
      offsets_left = rw h x.offsets_are;
      row_left = rw h x.row_is;
    }

pub label_at-requires : goal.label_at-requires
label_at-requires c =
    let f : c.in-Some.offset.now ∷ c.next.new.self.iter.a.rest.now ≡ c.loop-s.s-iterator.iter.a.rest.now = search rules in
    let g : c.in-Some.i.now ∷ c.next.new.self.iter.b.rest.now ≡ c.loop-s.s-iterator.iter.b.rest.now = search rules in
    let x = at_step c.args.offsets.now c.args.rows.now c.args.from c.loop-s.s-iterator.count _ _ _ _ (f ∙ c.loop-s.invariant.offsets_left) (g ∙ c.loop-s.invariant.row_left) in
    omega (arith, x.offset_is, x.i_is, c.requires.labels c.loop-s.s-iterator.count x.within)

pub push-requires-2 : goal.push-requires-2
push-requires-2 c =
    let i = c.loop-s.invariant in
    let all = all_steps c.args.offsets.now c.args.rows.now c.args.from c.loop-s.s-iterator.count c.requires.ended i.within i.offsets_left i.row_left (over c.in-None.ensures.steps.0) in
    omega (arith, begun_room i.begun (omega arith))

pub returns : goal.returns
returns c =
    let i = c.loop-s.invariant in
    let all = all_steps c.args.offsets.now c.args.rows.now c.args.from c.loop-s.s-iterator.count c.requires.ended i.within i.offsets_left i.row_left (over c.in-None.ensures.steps.0) in
    subst (λ (k : ℕ). Written (labels_of c.args.index.now c.args.offsets.now c.args.rows.now c.args.from) k c.push-2.new.self) all (line_of i.begun (omega arith) (omega arith) c.push-2.ensures)
