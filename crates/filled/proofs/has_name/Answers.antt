-- A name in a field is the whole run at its beginning, with zeros behind it.
use Rattle.std.proofs.Common.{ℕ, nat_eq, sym, subst, arith}
use mathlib.Core.Bool.{not}
use Rattle.meaning.specs.Answers.{Decides, fails}
use Rattle.meaning.proofs.Decide.{decides_as}
use Rattle.name.proofs.RunLaws.{run_within}
use Rattle.filled.specs.Fields.{HasName}
use Rattle.filled.proofs.FieldLaws.{named, unnamed, named_zeros, zeros_from}
use Rattle.filled.proofs.has_name.Goals as goal

pub returns-then-n-ne0 : goal.returns-then-n-ne0
returns-then-n-ne0 c =
    let f = c.args.field.now in
    let r = c.name_run-n in
    decides_as (named f r.result r.ensures c.requires c.if-n-ne0.true) (named_zeros f r.result r.ensures) (zeros_from f r.result _ (omega (arith, r.ensures, run_within f)) c.all_zero.ensures)

pub returns-else-n-ne0 : goal.returns-else-n-ne0
returns-else-n-ne0 c =
    let f = c.args.field.now in
    let r = c.name_run-n in
    subst (λ (n : ℕ). Decides (HasName f) (not (nat_eq n 0))) (sym c.if-n-ne0.false) (fails (unnamed f r.result r.ensures c.if-n-ne0.false))
