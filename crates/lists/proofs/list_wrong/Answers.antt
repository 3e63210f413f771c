-- `lists::list_wrong` meets its contract: what is wrong in the row's body is what is wrong in its list.
use Rattle.std.proofs.Common.{List, subst}
use Rattle.meaning.specs.Answers.{Decides}
use Rattle.meaning.proofs.Decide.{decides_as}
use Rattle.lists.specs.Ordering.{BodyWrong}
use Rattle.lists.proofs.Bodies.{list_by_body, body_by_list}
use Rattle.lists.proofs.list_wrong.Goals as goal

pub returns : goal.returns
returns c =
    decides_as (list_by_body _ _ c.args.contents.placed c.requires) (body_by_list _ _ c.args.contents.placed c.requires)
    (subst (λ (b : List _). Decides (BodyWrong b) c.body_wrong.result) c.body.ensures c.body_wrong.ensures)
