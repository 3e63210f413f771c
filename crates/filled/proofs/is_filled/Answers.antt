-- `filled::is_filled` meets its contract: a field that begins otherwise is not the name, and where it does what stands behind decides.
use Rattle.std.proofs.Common.{◌≡◌, sym, ◌∙◌, subst, Bool}
use Rattle.std.proofs.lemmas.Bool.{false≢true}
use Rattle.meaning.specs.Names.{filled}
use Rattle.meaning.specs.Answers.{Decides, fails}
use Rattle.filled.proofs.FieldLaws.{filled_begins, is_filled_by, zeros_from}
use Rattle.filled.proofs.is_filled.Goals as goal

pub returns-then-starts_with : goal.returns-then-starts_with
returns-then-starts_with c =
    is_filled_by c.args.field.now c.args.name.now c.starts_with.result _ c.requires c.starts_with.ensures.value c.if-starts_with.true (c.starts_with.ensures.bound c.if-starts_with.true) (zeros_from _ _ _ (c.starts_with.ensures.bound c.if-starts_with.true) c.all_zero.ensures)

pub returns-else-starts_with : goal.returns-else-starts_with
returns-else-starts_with c =
    let no = c.if-starts_with.false in
    subst (λ (r : Bool). Decides (c.args.field.now ≡ filled c.args.name.now) r) (sym no) (fails (λ h. false≢true (sym no ∙ filled_begins _ _ _ c.starts_with.ensures.value h)))
