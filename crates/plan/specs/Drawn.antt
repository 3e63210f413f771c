-- The plan of a question that was read from a text, which the engine is lent.
use Rattle.std.specs.Prelude.{ℕ, ◌≤◌, ◌<◌, ◌≡◌, List, length, get_or, Option, Some, None}
use Rattle.meaning.specs.Limits.{most_steps}
use Rattle.meaning.specs.Day.{list_of}
use Rattle.meaning.specs.Notation.{Path, Follows, steps, returned_step}
use Rattle.meaning.specs.Picks.{step_at}
use Rattle.meaning.specs.Pages.{FirstUnknown}
use Rattle.meaning.specs.declared.Question.{Question}
use Rattle.question.specs.Questions.{hook_number, question_of}
use Rattle.cursors.specs.declared.Plan.{Plan}
use Rattle.cursors.specs.declared.PlanStep.{PlanStep}
use Rattle.cursors.specs.Plan.{blank}

-- Step s of a tree over the index b: by what it hangs from and by its name's list.
abbrev pub drawn_step : List ℕ → Path → ℕ → PlanStep
drawn_step b p s = record { hangs = hook_number (step_at p s).hook; list = list_of b (step_at p s).name }

-- An array of 32 entries, of which the first k are those of f, and blank entries stand behind them.
pub record Column (k : ℕ) (f : ℕ → PlanStep) (xs : List PlanStep) : Type 0 where
  pub long : length xs ≡ most_steps
  pub are : (s : ℕ) → s < k → get_or xs s blank ≡ f s
  pub blank : (s : ℕ) → k ≤ s → get_or xs s blank ≡ blank

-- The plan is that of a tree over the index b: each of its steps, and blank entries behind them.
pub record Drawn (b : List ℕ) (p : Path) (d : Plan) : Type 0 where
  pub count_is : d.count ≡ steps p
  pub returned_is : d.returned ≡ returned_step p
  pub steps_are : Column (steps p) (drawn_step b p) d.steps

-- r is the first of an unknown step that was found before, or none if none was, and a later one s.
pub record FirstOf (unknown : Option ℕ) (s : ℕ) (r : Option ℕ) : Type 0 where
  pub none_before : unknown ≡ None → r ≡ Some s
  pub one_before : (unknown ≡ None → ⊥) → r ≡ unknown

-- The question is that of the text's tree, which has at most 32 steps.
pub record Asks (text : List ℕ) (q : Question) : Type 0 where
  pub writes : Follows text
  pub few : steps writes.tree ≤ most_steps
  pub is : q ≡ question_of writes.tree

-- The plan is that of the text's tree, which has at most 32 steps, and the number is that of its first step whose name no row has.
pub record Draws (b text : List ℕ) (d : Plan) (unknown : Option ℕ) : Type 0 where
  pub writes : Follows text
  pub few : steps writes.tree ≤ most_steps
  pub drawn : Drawn b writes.tree d
  pub told : FirstUnknown b writes.tree unknown
