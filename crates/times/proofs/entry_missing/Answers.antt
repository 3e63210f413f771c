-- `any` over the rows asks each whether a label of its list ends past the entries.
use Rattle.std.proofs.Common.{ℕ, List, length, refl, ap, subst, rules, arith}
use Rattle.std.proofs.lemmas.Iterator.{cases_from_any, YieldsList-from_range}
use Rattle.meaning.specs.Answers.{Decides}
use Rattle.meaning.specs.Day.{tags, row_list}
use Rattle.meaning.specs.Waits.{NoEntry}
use Rattle.meaning.proofs.Decide.{if_true, if_false}
use Rattle.times.specs.Entries.{EndsPast}
use Rattle.times.proofs.Looking.{any_below, missing_decides}
use Rattle.times.proofs.entry_missing.Goals as goal

pub returns : goal.returns
returns c =
    let b = c.contents-contents.result.index.now in
    let same = ap (λ i. i.now) c.contents-contents.ensures in
    let Past : ℕ → Type 0 = λ r. EndsPast b (row_list b r) (length c.args.times.now) in
    subst (λ (x : List ℕ). Decides (NoEntry x c.args.times.now) c.any.result) same
    (missing_decides b c.args.times.now (rw same c.args.day.lawful)
    (any_below Past (tags b) c.any.result
    (cases_from_any _ _ _ Past (λ r. Past r → ⊥) c.any.ensures.ran (YieldsList-from_range 0 c.tags.result (tags b) refl (omega arith)) (λ x q k. search (rules, if_true)) (λ x q k. search (rules, if_false)))))
