-- What reading hands on: the question of a tree.
use Rattle.std.specs.Prelude.{ℕ, get_or, Option, Some, None}
use Rattle.meaning.specs.declared.Step.{Step}
use Rattle.meaning.specs.declared.Question.{Question}
use Rattle.meaning.specs.Notation.{Path, Hook, nothing, from, steps, returned_step}
use Rattle.draft.specs.Drafts.{blank_step, filled_up}
use Rattle.path.specs.Stored.{stored}

-- The number of the step that a step hangs from, if it hangs from one.
abbrev pub hook_number : Hook → Option ℕ
hook_number nothing = None
hook_number (from u) = Some u

-- The question of a tree.
abbrev pub question_of : Path → Question
question_of p = record { steps = filled_up (stored p (hook_number nothing) 0 0); count = steps p; returned = returned_step p }

-- Step s of a question, as it is kept; a blank one past the last entry, where no promise looks.
abbrev pub kept : Question → ℕ → Step
kept q s = get_or q.steps s blank_step
