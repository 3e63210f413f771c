-- `refused` meets its contract: the innermost record's numbers are tested, and how many records are open.
use Rattle.std.proofs.Common.{◌≡◌, Bool, true, sym, subst, arith, inl, inr, ⊎_elim}
use Rattle.std.proofs.lemmas.Bool.Decides.{nat_tests}
use Rattle.meaning.specs.Answers.{Decides, holds, fails}
use Rattle.meaning.proofs.Decide.{decides_as, eq_decides}
use Rattle.turn.specs.Sweep.{Refuses}
use Rattle.turn.proofs.refused.Goals as goal
use Rattle.turn.proofs.refused.Goals.{then-inner-start, else-inner-start}

pub returns-in_default : goal.returns-in_default
returns-in_default c = fails (λ h. omega (arith, h.0, c.in_default.ensures.none))

-- What holds, by a test that passed.
decided : {P : Type 0} {b : Bool} → P → b ≡ true → Decides P b
decided {P} p e = subst (Decides P) (sym e) (holds p)

pub returns-then-inner-end : goal.returns-then-inner-end
returns-then-inner-end c =
    let e = c.in-Some.ensures in
    let why : Refuses c.args.records.now c.args.start c.args.end = rw (← e.last) (e.some, ⊎_elim (λ s. inl (omega arith)) (λ p. inr (inl (omega (arith, p.1)))) c.if-inner-end.either) in
    decided why (elim c.if-inner-start.branch [ then-inner-start w ↦ grind (arith, nat_tests) | else-inner-start w ↦ grind (arith, nat_tests) ])

pub returns-else-inner-end : goal.returns-else-inner-end
returns-else-inner-end c =
    let e = c.in-Some.ensures in
    rw (← e.last) (decides_as (λ f. (e.some, inr (inr f))) (λ h. ⊎_elim (λ s. absurd (c.if-inner-end.false.0 s)) (λ g. ⊎_elim (λ l. absurd (omega (arith, l, c.if-inner-end.false.1))) (λ f. f) g) h.1) (eq_decides _ _))
