-- `name::name_run` meets its contract: a first byte that may not begin a name leaves no run.
use Rattle.std.proofs.Common.{sym, ◌∙◌}
use Rattle.name.proofs.RunLaws.{begins_not}
use Rattle.name.proofs.name_run.Goals as goal

pub returns-in_default : goal.returns-in_default
returns-in_default c = sym (begins_not _ _ _ c.in-Some.ensures.cases.0 (sym c.may_begin.ensures ∙ c.if-may_begin.false))
