-- What the two calls for rows promise, by what a row is and what room there is for rows.
use Rattle.std.specs.Prelude.{ℕ, List, Result}
use Rattle.meaning.specs.declared.Page.{Page}
use Rattle.meaning.specs.declared.refusal.Refusal.{Refusal}
use Rattle.meaning.specs.Picks.{Asked}
use Rattle.meaning.specs.Refusals.{call_table}
use Rattle.meaning.specs.Promises.{Outcome}

-- A call refuses by its table, or gives a page of such rows. The answer call's promise, `Answered`, and the evidence call's, `Shown`, are this
-- one with the rows and the room of each.
abbrev pub Responds : (Asked → ℕ → List ℕ → Type 0) → (Asked → ℕ → ℕ) → List ℕ → List ℕ → ℕ → List ℕ → List ℕ → Result Page Refusal → Type 0
Responds Row room b text = Outcome (call_table b text) Row room b text
