-- The promise of reading fixes the outcome: two readings of one text are equal.
use Prim.Native.Nat.{ℕ}
use mathlib.Core.Path.{◌≡◌, sym, ap, ◌∙◌}
use mathlib.Core.List.{List}
use Rattle.std.specs.Prelude.{Result, Ok, Err}
use Rattle.meaning.specs.declared.Question.{Question}
use Rattle.meaning.specs.declared.refusal.Refusal.{Refusal}
use Rattle.meaning.specs.Numbers.{number_of}
use Rattle.meaning.specs.Refusals.{question_table, Judged}
use Rattle.meaning.proofs.Laws.Notation.{one_tree}
use Rattle.meaning.proofs.Laws.Numbers.{number_one}
use Rattle.meaning.proofs.Laws.Table.{given_one, clear_not_given}
use Rattle.question.specs.Questions.{question_of}
use Rattle.question.specs.Promise.{ReadAs, refused, read}

-- Two readings of one text are equal.
pub read_fixed : (text : List ℕ) (r q : Result Question Refusal) → ReadAs text r → ReadAs text q → r ≡ q
read_fixed text (Err d) (Err e) (refused g) (refused h) = ap Err (number_one d e (given_one (question_table text) (number_of d) (number_of e) g h))
read_fixed text (Err d) (Ok q) (refused g) (read c t e) = absurd (clear_not_given (question_table text) (number_of d) c g)
read_fixed text (Ok q) (Err e) (read c t w) (refused h) = absurd (clear_not_given (question_table text) (number_of e) c h)
read_fixed text (Ok q) (Ok p) (read c t e) (read b u f) = ap Ok (e ∙ ap question_of (one_tree t u) ∙ sym f)

-- Reading answers the question's rows of the table of refusals.
pub read_judged : (text : List ℕ) (r : Result Question Refusal) → ReadAs text r → Judged (question_table text) r
read_judged text (Err e) (refused g) = g
read_judged text (Ok q) (read c t e) = c
