-- How many steps, records and rows a call can have, and why no refusal is about the number of records.
use Prim.Native.Nat.{ℕ, ◌≤◌, ◌<◌}
use native.Mathlib.Omega.{arith}
use mathlib.Core.Path.{ap, ◌≡◌, refl}
use mathlib.Core.Logic.{inl, inr, ◌≢◌, ⊎_elim}
use mathlib.Core.List.{List, [], ◌∷◌}
use lib.ListN.{length}
use Rattle.std.specs.Prelude.{Option, Some, None, Result}
use Rattle.meaning.specs.declared.Page.{Page}
use Rattle.meaning.specs.declared.refusal.Refusal.{Refusal}
use Rattle.meaning.specs.Numbers.{page_of}
use Rattle.meaning.specs.declared.Body.{Body}
use Rattle.meaning.specs.Limits.{most_labels, most_steps}
use Rattle.meaning.specs.Day.{total}
use Rattle.meaning.specs.Notation.{Path, Follows, steps}
use Rattle.meaning.specs.Picks.{Asked, Returned, asked, step_at}
use Rattle.meaning.specs.Pages.{In, Records, here, nowhere, FirstUnknown}
use Rattle.meaning.specs.Refusals.{end, row, followed, Clear, Lawful, check_table, question_table, call_table}
use Rattle.meaning.specs.Promises.{Outcome, refused, page}
use Rattle.meaning.specs.Fit.{Fit}
use Rattle.meaning.proofs.Decide.{or_not, le_decides}
use Rattle.meaning.proofs.Laws.Day.{lawful_fit, list_small}
use Rattle.meaning.proofs.Laws.Record.{ascending_few}
use Rattle.meaning.proofs.Laws.Found.{unknown_list}
use Rattle.meaning.proofs.Laws.Table.{clear_first}
use Rattle.meaning.proofs.Laws.Promise.{kept_without, kept_with}

-- A question that is not refused has at most 32 steps.
pub few_steps : {text : List ℕ} → Clear (question_table text) → (f : Follows text) → steps f.tree ≤ most_steps
few_steps c f = ⊎_elim (λ l. l) (λ n. absurd (c.1.1.0 (f, inl (omega arith)))) (or_not (le_decides (steps f.tree) most_steps))

-- A lawful day has at most 1,048,576 labels.
pub lawful_small : (b : List ℕ) → Lawful b → total b ≤ most_labels
lawful_small b (no₁, (no₂, (no₃, rest))) = ⊎_elim (λ l. l) (λ n. absurd (no₃ (inr (inr (inr (omega arith)))))) (or_not (le_decides (total b) most_labels))

asked_small : (b : List ℕ) (p : Path) (s : ℕ) → (asked b p).count s ≤ total b
unfolding asked
asked_small b p s = list_small b (step_at p s).name

-- A returned record is one of the returned step's list.
returned_below : (a : Asked) → Fit a → (i : ℕ) → Returned a i → i < a.count a.returned
returned_below a fit i (p, pick, e) = omega (arith, e, pick.within a.returned fit.returned_lt)

-- For a lawful index and a question that follows the notation, no list of returned records, from whatever place, is longer than 1,048,576:
-- they are different labels of one list. So there is nothing to refuse, and the table has no row for it.
pub few_records : {b text : List ℕ} → Lawful b → (f : Follows text) (place : ℕ) (all : List ℕ) → Records (asked b f.tree) place all → length all ≤ most_labels
few_records {b} {text} law f place all rec =
    let a : Asked = asked b f.tree in
    let fit : Fit a = lawful_fit b f.tree law in
    let low : (i : ℕ) → In i all → (0 ≤ i) × (i < a.count a.returned) = λ i h. (omega arith, returned_below a fit i (rec.each i h).0) in
    omega (arith, ascending_few all 0 (a.count a.returned) rec.ascending low, asked_small b f.tree a.returned, lawful_small b law)

-- Where a step's name is unknown there are no records, from whatever place on.
pub unknown_empty : (b : List ℕ) (p : Path) (s : Option ℕ) (place : ℕ) (all : List ℕ) → FirstUnknown b p s → s ≢ None → Records (asked b p) place all → all ≡ []
unfolding asked
unknown_empty b p s place [] u some rec = refl
unknown_empty b p None place (i ∷ is) (nowhere none) some rec = absurd (some refl)
unknown_empty b p (Some s) place (i ∷ is) (here l no_row before) some rec =
    let (q, pick, e) = (rec.each i (inl refl)).0 in
    absurd (omega (arith, pick.within s l, ap (λ (z : Body). z.count) (unknown_list b (step_at p s).name no_row)))

-- A call writes at most 1,048,576 rows.
pub few_rows : {Row : Asked → ℕ → List ℕ → Type 0} {room : Asked → ℕ → ℕ} {b text entry exit : List ℕ} {place : ℕ} {r : Result Page Refusal}
    → Outcome (call_table b text) Row room b text place entry exit r → (page_of r).rows ≤ most_labels
few_rows (refused {r = r} g x) = omega (arith, ap (λ (q : Result Page Refusal). (page_of q).rows) x.refusal)
few_rows {b = b} {text = text} (page c f p u) = omega (arith, p.rows, few_records (clear_first (check_table b) (question_table text) c) f _ p.all p.records)

-- More than 1,048,576 records are returned.
abbrev Many : List ℕ → List ℕ → Type 0
Many b text = (f : Follows text) × (all : List ℕ) × Records (asked b f.tree) 0 all × (most_labels < length all)

never_many : (b text : List ℕ) → Clear (call_table b text) → Many b text → ⊥
never_many b text c (f, all, rec, many) = omega (arith, many, few_records (clear_first (check_table b) (question_table text) c) f 0 all rec)

-- A row for that, behind all others and by whatever number, would change nothing: a call keeps the promise with it exactly if it keeps it
-- without.
module _ (b text : List ℕ) (n : ℕ) {Row : Asked → ℕ → List ℕ → Type 0} {room : Asked → ℕ → ℕ} {entry exit : List ℕ} {place : ℕ} {r : Result Page Refusal} where
  pub many_left_out : Outcome (followed (call_table b text) (row n (Many b text) end)) Row room b text place entry exit r → Outcome (call_table b text) Row room b text place entry exit r
  many_left_out = kept_without (call_table b text) end n (Many b text) (never_many b text)

  pub many_put_back : Outcome (call_table b text) Row room b text place entry exit r → Outcome (followed (call_table b text) (row n (Many b text) end)) Row room b text place entry exit r
  many_put_back = kept_with (call_table b text) end n (Many b text) (never_many b text)
