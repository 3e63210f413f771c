-- A call's outcome is passed on as five numbers: one law for the answer call and the evidence call, whatever a row is and however much
-- room there is for rows.
use Prim.Native.Nat.{ℕ, ◌≤◌}
use mathlib.Core.Path.{◌≡◌}
use mathlib.Core.List.{List}
use Rattle.std.specs.Prelude.{Result}
use Rattle.meaning.specs.declared.Page.{Page}
use Rattle.meaning.specs.declared.refusal.Refusal.{Refusal}
use Rattle.meaning.specs.Numbers.{page_of}
use Rattle.meaning.specs.Limits.{most_labels}
use Rattle.meaning.specs.Picks.{Asked}
use Rattle.meaning.specs.Refusals.{call_table}
use Rattle.meaning.specs.Promises.{Outcome}
use Rattle.meaning.proofs.Laws.Few.{few_rows}
use Rattle.roadthrum_c.specs.Boundary.{numbers, PassedOn}

module _ {Row : Asked → ℕ → List ℕ → Type 0} {room : Asked → ℕ → ℕ} {b text entry exit : List ℕ} {place : ℕ} {r : Result Page Refusal} (o : Outcome (call_table b text) Row room b text place entry exit r) where
  -- The page has few enough rows to be numbered.
  pub to_number : (page_of r).rows ≤ most_labels
  to_number = few_rows o

  -- Its numbers pass it on.
  pub passed_on : {result : List ℕ} → result ≡ numbers r → PassedOn numbers (Outcome (call_table b text) Row room b text place entry exit) result
  passed_on e = record { outcome = r; promised = o; numbered = e }
