-- A known list lies within the index and is the name's, and an unknown name's list has no labels.
use Rattle.std.proofs.Common.{sym, subst, ap, ◌∙◌}
use Rattle.meaning.specs.declared.Body.{Body}
use Rattle.meaning.proofs.Laws.Found.{known_list, unknown_list}
use Rattle.contents.specs.Parts.{InIndex, bytes_of}
use Rattle.contents.proofs.FindLaws.{list_within}
use Rattle.contents.proofs.lawful.LawfulDay.lookup.Goals as goal

pub returns-in_default : goal.returns-in_default
returns-in_default c =
    let b = c.args.self.index.now in
    sym (ap (bytes_of b) (unknown_list b c.args.name.now c.in_default.ensures))

pub body_at-requires : goal.body_at-requires
body_at-requires c =
    let b = c.args.self.index.now in
    let n = c.args.name.now in
    let law = c.args.self.lawful in
    subst (λ (l : Body). InIndex b l) (sym (known_list b law n _ c.in-Some.ensures)) (list_within b n law)

pub returns : goal.returns
returns c =
    let b = c.args.self.index.now in
    c.body_at.ensures ∙ ap (λ (l : Body). bytes_of b l) (known_list b c.args.self.lawful c.args.name.now _ c.in-Some.ensures)
