-- `filled::comes_before` meets its contract: `<` on slices decides by the first bytes that differ.
use Rattle.std.proofs.Common.{sym, ◌∙◌, subst, Bool}
use Rattle.meaning.specs.Names.{Sooner}
use Rattle.meaning.specs.Answers.{Decides}
use Rattle.filled.proofs.FieldLaws.{sooner_decides}
use Rattle.filled.proofs.comes_before.Goals as goal

pub returns : goal.returns
returns c =
    subst (λ (r : Bool). Decides (Sooner c.args.x.now c.args.y.now) r) (sym c.lt.ensures) (sooner_decides c.args.x.now c.args.y.now (c.requires.x_long ∙ sym c.requires.y_long))
