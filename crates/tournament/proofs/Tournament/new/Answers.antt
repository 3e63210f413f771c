-- `new` meets its contract: each player was given its number.
use Rattle.std.proofs.Common.{rules, of_calls, ℕ, ap, arith, length, ◌∙◌}
use Rattle.std.proofs.lemmas.List.{length-replicate, ext_get_or}
use Rattle.tournament.proofs.Tournament.new.Goals as goal

pub returns : goal.returns
returns c =
    let blank = ap length c.blank-filled.ensures ∙ length-replicate {A = ℕ} _ 0 in
    ext_get_or 0 _ _ (c.fill.ensures.many ∙ blank) (λ j l. let given = c.fill.ensures.each j (omega (arith, l, c.fill.ensures.many)) in search (rules, of_calls, given))
