-- `begin` meets its contract: every list has the place of its first label, and the key of that.
use Rattle.std.proofs.Common.{rules, of_calls, ℕ, ap, arith, length, ◌∙◌}
use Rattle.std.proofs.lemmas.List.{length-replicate}
use Rattle.order.proofs.Filling.{filled_standing}
use Rattle.order.proofs.walk.Walk.begin.Goals as goal

pub invariant_of-walk : goal.invariant_of-walk
invariant_of-walk c =
    let many = c.fill.ensures.many ∙ ap length c.blank.ensures ∙ length-replicate {A = ℕ} _ 0 ∙ c.tags-lists.ensures in
    record {
      standing = filled_standing _ _ c.args.contents.placed c.requires.ascend c.first_places.ensures _ many
          (λ r l. let given = c.fill.ensures.each r (omega (arith, l, many, c.fill.ensures.many)) in search (rules, of_calls, given));
    }
