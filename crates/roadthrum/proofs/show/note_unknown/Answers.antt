-- `roadthrum::show::note_unknown` may make its calls: the question is the one that the evidence call read, and the step is one of its steps.
use Rattle.std.proofs.Common.{ℕ, ◌<◌, ◌≡◌, List, ap, arith, rules}
use Rattle.std.specs.Prelude.{Some, Option, IfSome}
use Rattle.meaning.specs.Notation.{steps}
use Rattle.meaning.proofs.Laws.Notation.{one_tree}
use Rattle.meaning.specs.declared.Question.{Question}
use Rattle.plan.specs.Drawn.{Asks}
use Rattle.plan.proofs.Drawing.{asked_step}
use Rattle.roadthrum.specs.PageRows.{Tells}
use Rattle.roadthrum.proofs.show.note_unknown.Goals as goal

-- The step that is told is one of the question that was read.
told : (text : List ℕ) (s : ℕ) (q : Question) (unknown : Option ℕ) → Tells text unknown → unknown ≡ Some s → (a : Asks text q) → s < steps a.writes.tree
told text s q unknown t e a =
    let l : IfSome unknown (λ n. n < steps t.follows.tree) = t.step in
    let m : s < steps t.follows.tree = rw e at l in
    omega (arith, m, ap steps (one_tree t.follows a.writes))

pub bounds-question-from : goal.bounds-question-from
bounds-question-from g c =
    let asked = c.requires.asked in
    let same : c.from.result ≡ c.in-Some.step = search rules in
    omega (arith, told _ _ _ _ c.requires.told c.in-Some.is asked, asked.few)

pub name_of-name-requires : goal.name_of-name-requires
name_of-name-requires g c =
    let asked = c.requires.asked in
    let same : c.from.result ≡ c.in-Some.step = search rules in
    rw same (asked_step _ _ asked _ (told _ _ _ _ c.requires.told c.in-Some.is asked)).within
