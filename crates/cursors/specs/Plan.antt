-- A question put to a day, as the engine is lent it: numbers alone, with neither names nor text.
use Rattle.std.specs.Prelude.{ℕ, ◌+◌, ◌*◌, ◌≤◌, ◌<◌, List, length, get_or, Option, Some, None}
use Rattle.meaning.specs.Limits.{most_steps, most_labels}
use Rattle.meaning.specs.Day.{label_at}
use Rattle.meaning.specs.Notation.{Hook, nothing, from}
use Rattle.meaning.specs.Picks.{Asked}
use Rattle.meaning.specs.Fit.{Fit}
use Rattle.cursors.specs.declared.Plan.{Plan}
use Rattle.cursors.specs.declared.PlanStep.{PlanStep}

-- What a step hangs from, by its number, or nothing.
abbrev pub hook_of : Option ℕ → Hook
hook_of None = nothing
hook_of (Some u) = from u

-- An entry past the last step: it hangs from nothing, and its list is empty.
abbrev pub blank : PlanStep
blank = record { hangs = None; list = record { offset = 0; count = 0 } }

-- Step s of a plan.
abbrev pub planned_step : Plan → ℕ → PlanStep
planned_step p s = get_or p.steps s blank

-- The question that a plan holds: for each of its steps what it hangs from, where its list's body begins in the index b, and its number of
-- labels.
unfoldable pub plan_of : List ℕ → Plan → Asked
plan_of b p = record {
  steps = p.count;
  returned = p.returned;
  hook = λ s. hook_of (planned_step p s).hangs;
  count = λ s. (planned_step p s).list.count;
  label = λ s i. label_at b (planned_step p s).list.offset i;
}

-- A plan over the index b: at most 32 steps, each list within the index, and what picks rest on.
pub record Planned (b : List ℕ) (p : Plan) : Type 0 where
  pub few : p.count ≤ most_steps
  pub held : (s : ℕ) → s < p.count → (planned_step p s).list.offset + 8 * (planned_step p s).list.count ≤ length b
  pub small : (s : ℕ) → s < p.count → (planned_step p s).list.count ≤ most_labels
  pub fit : Fit (plan_of b p)
