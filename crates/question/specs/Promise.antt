-- The promise of reading a question.
use Rattle.std.specs.Prelude.{ℕ, ◌≡◌, List, Result, Ok, Err}
use Rattle.meaning.specs.declared.Question.{Question}
use Rattle.meaning.specs.declared.refusal.Refusal.{Refusal}
use Rattle.meaning.specs.Notation.{Follows}
use Rattle.meaning.specs.Numbers.{number_of}
use Rattle.meaning.specs.Refusals.{Given, Clear, question_table}
use Rattle.question.specs.Questions.{question_of}

-- Reading a text gives the refusal by the first reason of 7 to 9 that applies, and nothing of a question, or the question of the text's
-- tree.
pub data ReadAs (text : List ℕ) : Result Question Refusal → Type 0 where
  refused : {e : Refusal} → Given (question_table text) (number_of e) → ReadAs text (Err e)
  read : {q : Question} → Clear (question_table text) → (f : Follows text) → q ≡ question_of f.tree → ReadAs text (Ok q)
