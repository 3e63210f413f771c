-- Picks: which records a question returns, and the evidence for each.
use Rattle.std.specs.Prelude.{ℕ, ◌≤◌, ◌<◌, ◌≡◌, List, [], length, get_or}
use Rattle.meaning.specs.declared.Label.{Label}
use Rattle.meaning.specs.Labels.{Inside}
use Rattle.meaning.specs.Day.{list_of, label_at}
use Rattle.meaning.specs.Notation.{Path, Hook, nothing, from, Step, steps, step_list, returned_step}
use Rattle.meaning.specs.Bytes.{at}

-- A question put to a day: its number of steps, its returned step, what each step hangs from, and the records of each step's tag, of
-- which step s has `count s`, record i of them with the label `label s i`.
pub record Asked : Type 0 where
  pub steps : ℕ
  pub returned : ℕ
  pub hook : ℕ → Hook
  pub count : ℕ → ℕ
  pub label : ℕ → ℕ → Label

-- Step s of a tree.
abbrev pub step_at : Path → ℕ → Step
step_at p s = get_or (step_list p) s (record { name = []; hook = nothing })

-- The question of a tree put to the day of an index: each step's records are those of its name's list.
unfoldable pub asked : List ℕ → Path → Asked
asked b p = record {
  steps = steps p;
  returned = returned_step p;
  hook = λ s. (step_at p s).hook;
  count = λ s. (list_of b (step_at p s).name).count;
  label = λ s i. label_at b (list_of b (step_at p s).name).offset i;
}

-- The relation of an edge: the record of a step lies inside the record of the step that it hangs from.
abbrev pub Edge : Label → Label → Type 0
Edge mine above = Inside mine above

-- What a pick p must satisfy at step s, by what that step hangs from: nothing asks nothing.
abbrev pub Hung : Asked → (ℕ → ℕ) → ℕ → Hook → Type 0
Hung a p s nothing = Unit
Hung a p s (from u) = Edge (a.label s (p s)) (a.label u (p u))

-- A pick gives each step a record of the step's tag, in the relation of its edge to the record of the step that it hangs from.
pub record Pick (a : Asked) (p : ℕ → ℕ) : Type 0 where
  pub within : (s : ℕ) → s < a.steps → p s < a.count s
  pub hung : (s : ℕ) → s < a.steps → Hung a p s (a.hook s)

-- Record i of the returned step's tag is returned: a pick has it there.
abbrev pub Returned : Asked → ℕ → Type 0
Returned a i = (p : ℕ → ℕ) × Pick a p × (p a.returned ≡ i)

-- The row is the evidence for record i: one record per step, a pick that has record i at the returned step and that is, at every step
-- at once, no later than any pick that has it there. In one list the earlier record has the lower position.
pub record Evidence (a : Asked) (i : ℕ) (row : List ℕ) : Type 0 where
  pub long : length row ≡ a.steps
  -- Number s of the row is the list position of step s's record.
  pub pick : Pick a (at row)
  pub here : at row a.returned ≡ i
  pub earliest : (q : ℕ → ℕ) → Pick a q → q a.returned ≡ i → (s : ℕ) → s < a.steps → at row s ≤ q s
