-- `question::read` meets its contract: each return by what was found of the text.
use Rattle.std.proofs.Common.{arith, refl, ap}
use mathlib.Core.Logic.{inl, inr}
use Rattle.meaning.specs.Numbers.{number_of}
use Rattle.question.proofs.Texts.{fresh_ready, handed, handed_none, some_within, broken_follows, rest_follows, all_held}
use Rattle.question.proofs.Outcomes.{over_long, no_tree, over_large, passed_on, as_read}
use Rattle.question.proofs.read.Goals as goal

pub returns-then-too_long : goal.returns-then-too_long
returns-then-too_long c = over_long (omega arith) refl

pub read_path-requires : goal.read_path-requires
read_path-requires c = fresh_ready c.new.ensures (omega arith)

pub returns-in_err-draft : goal.returns-in_err-draft
returns-in_err-draft c =
    let h = handed_none _ c.read_path.result c.in_err-draft.ensures c.read_path.ensures in
    passed_on _ c.from_residual.ensures.1 (no_tree (omega arith) (broken_follows c.new.ensures h.0) (ap number_of h.1))

pub overflow_sub-rest : goal.overflow_sub-rest
overflow_sub-rest c = omega (arith, some_within c.new.ensures (handed _ c.read_path.result c.in_ok-draft.ensures c.read_path.ensures))

pub returns-then-goes_on : goal.returns-then-goes_on
returns-then-goes_on c = no_tree (omega arith) (rest_follows c.new.ensures (handed _ c.read_path.result c.in_ok-draft.ensures c.read_path.ensures) (omega arith)) refl

pub returns-then-too_many : goal.returns-then-too_many
returns-then-too_many c =
    let h = all_held c.new.ensures (handed _ c.read_path.result c.in_ok-draft.ensures c.read_path.ensures) (omega arith) in
    over_large (omega arith) h.writes (inl (omega (arith, h.count))) refl

pub returns-then-too_deep : goal.returns-then-too_deep
returns-then-too_deep c =
    let h = all_held c.new.ensures (handed _ c.read_path.result c.in_ok-draft.ensures c.read_path.ensures) (omega arith) in
    over_large (omega arith) h.writes (inr (omega (arith, h.deepest))) refl

pub returns : goal.returns
returns c =
    let h = all_held c.new.ensures (handed _ c.read_path.result c.in_ok-draft.ensures c.read_path.ensures) (omega arith) in
    as_read (omega arith) h (omega arith) (omega arith) (omega arith) (omega arith)
