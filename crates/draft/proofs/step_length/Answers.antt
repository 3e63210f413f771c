-- `draft::step_length` meets its contract: a step stands where `//` stands before a run of 1 to 16 characters.
use Rattle.std.proofs.Common.{arith}
use Rattle.draft.specs.Steps.{long, none}
use Rattle.draft.proofs.Lengths.{no_slashes, behind_slashes, no_name, step_found}
use Rattle.draft.proofs.step_length.Goals as goal

pub returns-in_err-name : goal.returns-in_err-name
returns-in_err-name c = rw c.from_residual.ensures (none (no_slashes c.args.text.now c.args.at c.in_err-name.ensures.cases))

pub returns-then-length-eq0 : goal.returns-then-length-eq0
returns-then-length-eq0 c =
    let a = c.args in
    let e = behind_slashes a.text.now a.at c.in_ok-name.name c.in_ok-name.ensures.cases in
    none (no_name a.text.now a.at c.in_ok-name.name.now e _ c.name_run-length.ensures (λ p. omega (arith, c.then-length-eq0.either)))

pub returns : goal.returns
returns c =
    let a = c.args in
    let e = behind_slashes a.text.now a.at c.in_ok-name.name c.in_ok-name.ensures.cases in
    long (step_found a.text.now a.at c.in_ok-name.name.now e _ c.name_run-length.ensures (omega arith) (omega arith))
