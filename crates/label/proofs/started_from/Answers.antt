-- `label::started_from` meets its contract: a look settles all labels on its one side, and where the list ends, none is left to look at.
use Rattle.std.proofs.Common.{◌≤◌, ◌<◌, arith}
use mathlib.Core.Logic.{⊎_elim}
use Rattle.std.proofs.lemmas.Bool.{cases_lt}
use Rattle.label.proofs.Searching.{settle_up, settle_down, widen}
use Rattle.label.proofs.started_from.Goals as goal

pub loop-high-preserved : goal.loop-high-preserved
loop-high-preserved c =
    let asc = c.requires.ascends in
    let w = c.loop-high.invariant.between in
    record {
      between = settle_up _ _ _ _ asc w c.loop-high.high _ _ (omega arith) (omega arith) (omega arith) (omega arith) (omega arith) (omega arith);
      onward = omega arith;
      ordered = omega arith;
    }

pub halved-requires-clause-between : goal.halved-requires-clause-between
halved-requires-clause-between c =
    let asc = c.requires.ascends in
    let w = c.loop-high.invariant.between in
    ⊎_elim
    (λ (l : c.loop-high.high < c.args.n). settle_down _ _ _ _ asc w c.loop-high.high _ _ (omega arith) (omega arith) (omega arith) (omega arith) (grind (arith, l)))
    (λ (m : c.args.n ≤ c.loop-high.high). widen _ _ _ _ w _ _ (omega arith) (omega (arith, m)) (omega arith))
    (cases_lt c.loop-high.high c.args.n)
