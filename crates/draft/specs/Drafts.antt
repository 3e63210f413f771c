-- Drafts: the entries of one, the one before the first byte, what a move or a step more makes of one, and what is handed on of one.
use Rattle.std.specs.Prelude.{ℕ, ◌+◌, ◌-◌, max, List, [], ◌∷◌, ◌++◌, length, replicate, Option, None, Result, Ok, Err}
use Rattle.std.proofs.lemmas.List.Edits.{sets}
use Rattle.meaning.specs.declared.Step.{Step}
use Rattle.meaning.specs.Limits.{most_steps}
use Rattle.draft.specs.declared.Broken.{Broken}
use Rattle.draft.specs.declared.Draft.{Draft}

-- An entry that holds no step.
abbrev pub blank_step : Step
blank_step = record { start = 0; length = 0; hangs = None }

-- Steps with blank entries behind them, 32 in all.
abbrev pub filled_up : List Step → List Step
filled_up xs = xs ++ replicate (most_steps - length xs) blank_step

-- The draft before the first byte.
unfoldable pub fresh : Draft
fresh = record { steps = filled_up []; count = 0; deepest = 0; at = 0; last = 0 }

-- What a reading hands on: the draft, or nothing of it where the text is broken.
abbrev pub handed_on : Result (Unit {0}) Broken → Draft → Result Draft Broken
handed_on (Ok u) q = Ok q
handed_on (Err e) q = Err e

-- The draft moved to place `at` of the text, in a path of which step `last` was named last.
unfoldable pub moved : Draft → ℕ → ℕ → Draft
moved q at last = record { steps = q.steps; count = q.count; deepest = q.deepest; at = at; last = last }

-- The draft with the steps xs more, of which those past the 32nd are counted and not kept, and which go d brackets deep; moved as above.
unfoldable pub grown : Draft → List Step → ℕ → ℕ → ℕ → Draft
grown q xs d at last = record { steps = sets q.steps q.count xs; count = q.count + length xs; deepest = max q.deepest d; at = at; last = last }

-- The step whose name n stands behind `//` at place `at`.
abbrev pub step_of : ℕ → List ℕ → Option ℕ → Step
step_of at n hang = record { start = at + 2; length = length n; hangs = hang }

-- The draft behind a step with the name n, which stands where q is, in d brackets, and hangs from number `hang`, or from nothing.
abbrev pub stepped : Draft → Option ℕ → ℕ → List ℕ → Draft
stepped q hang d n = grown q (step_of q.at n hang ∷ []) d (q.at + 2 + length n) q.count
