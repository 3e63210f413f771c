-- It asks for the name, the order and the offset, and gives up at the first that is wrong.
use Rattle.std.proofs.Common.{List, subst, sym, ◌∙◌, arith}
use Rattle.meaning.specs.Answers.{Decides, fails}
use Rattle.meaning.proofs.Decide.{if_true, if_false, decides_as, eq_decides}
use Rattle.filled.specs.Fields.{HasName}
use Rattle.table.proofs.RowLaws.{row_as, row_named}
use Rattle.table.proofs.row_right.Goals as goal
use Rattle.table.proofs.row_right.Goals.{then-has_name, else-has_name}

pub returns-then-in_order : goal.returns-then-in_order
returns-then-in_order c =
    let b = c.args.row.index.now in
    let r = c.args.row.number in
    let named = subst (λ (f : List _). Decides (HasName f) c.has_name.result) c.name_field.ensures.value c.has_name.ensures in
    elim c.if-has_name.branch [
      | then-has_name w ↦
          row_as b r _ (if_true named w.if-has_name.true) (if_true w.in_order.ensures (sym w.value-is ∙ c.if-in_order.true))
          (decides_as (λ e. omega (arith, e)) (λ e. omega (arith, e)) (eq_decides c.offset.result c.args.place))
      | else-has_name w ↦ absurd (cc)
    ]

pub returns-else-in_order : goal.returns-else-in_order
returns-else-in_order c =
    let named = subst (λ (f : List _). Decides (HasName f) c.has_name.result) c.name_field.ensures.value c.has_name.ensures in
    rw c.if-in_order.false (fails (λ h. elim c.if-has_name.branch [
      | then-has_name w ↦ if_false w.in_order.ensures (sym w.value-is ∙ c.if-in_order.false) h.order
      | else-has_name w ↦ if_false named w.if-has_name.false (row_named _ _ h)
    ]))
