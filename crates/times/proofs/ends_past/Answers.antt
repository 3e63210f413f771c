-- `any` over the labels asks each whether its end is past the entries.
use Rattle.std.proofs.Common.{ℕ, ◌≤◌, refl, rules, arith}
use Rattle.std.proofs.lemmas.Iterator.{cases_from_any, YieldsList-from_range}
use borrow.Author.Tests.{tests}
use Rattle.meaning.specs.Day.{label_at}
use Rattle.times.proofs.Looking.{any_below}
use Rattle.times.proofs.ends_past.Goals as goal

pub returns : goal.returns
returns c =
    let l = c.args.list in
    let Past : ℕ → Type 0 = λ i. c.args.entries ≤ (label_at c.args.index.now l.offset i).end in
    any_below Past l.count c.any.result
    (cases_from_any _ _ _ Past (λ i. Past i → ⊥) c.any.ensures.ran (YieldsList-from_range 0 l.count l.count refl (omega arith)) (λ x q k. search (rules, tests)) (λ x q k. search (rules, tests)))
