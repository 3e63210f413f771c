-- `response::respond` meets its contract: each part's promise is a part of the call's.
use Rattle.std.proofs.Common.{rules, refl, sym, arith}
use Rattle.std.proofs.lemmas.Result.{err_from_is_err_and}
use Rattle.cursors.proofs.SettleTurns.{ret_of}
use Rattle.pages.proofs.Paging.{page_as}
use Rattle.response.proofs.Responding.{asks_of, refuse_index, refuse_text, clear_of, planned_of, give}
use Rattle.response.proofs.respond.Goals as goal

pub returns-in_err-check : goal.returns-in_err-check
returns-in_err-check g c = let p = err_from_is_err_and c.from_residual.result c.from_residual.ensures.1 in rw (p.1, p.2) (search (rules, refuse_index))

pub returns-in_err-question : goal.returns-in_err-question
returns-in_err-question g c = let p = err_from_is_err_and c.from_residual-in_err-question.result c.from_residual-in_err-question.ensures.1 in rw (p.1, p.2) (search (rules, refuse_text))

pub draw-unknown-requires : goal.draw-unknown-requires
draw-unknown-requires g c = search (rules, asks_of)

pub steps-requires-clause-one : goal.steps-requires-clause-one
steps-requires-clause-one g c = ret_of (planned_of (search rules) c.draw-unknown.ensures)

pub steps-requires-clause-few : goal.steps-requires-clause-few
steps-requires-clause-few g c = (planned_of (search rules) c.draw-unknown.ensures).few

pub write_page-requires-clause-planned : goal.write_page-requires-clause-planned
write_page-requires-clause-planned g c = planned_of (search rules) c.draw-unknown.ensures

pub write_page-requires-clause-some : goal.write_page-requires-clause-some
write_page-requires-clause-some g c =
    omega (arith, c.steps.ensures.from, c.steps.ensures.to, g.met.R.Row.laws.wide _ _ (ret_of (planned_of (search rules) c.draw-unknown.ensures)))

pub write_page-requires-clause-within : goal.write_page-requires-clause-within
write_page-requires-clause-within g c =
    omega (arith, c.steps.ensures.to, g.met.R.Row.laws.within _ _ (ret_of (planned_of (search rules) c.draw-unknown.ensures)))

pub returns : goal.returns
returns g c =
    give g.met.R.Row.laws (search rules) (search (rules, clear_of)) c.draw-unknown.ensures
    (page_as (sym c.steps.ensures.from) (omega (arith, c.steps.ensures.from, c.steps.ensures.to)) refl c.write_page.ensures.paged) c.write_page.ensures.told
