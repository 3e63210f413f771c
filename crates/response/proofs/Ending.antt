-- From the page that the engine writes to the page that a call for rows promises.
use Prim.Native.Nat.{ℕ, ◌/◌, ◌≤◌}
use mathlib.Core.Path.{◌≡◌, refl, subst₂, ◌∙◌}
use mathlib.Core.List.{List}
use lib.ListN.{length, take, drop}
use Rattle.meaning.specs.declared.Page.{Page}
use Rattle.meaning.specs.Limits.{most_steps}
use Rattle.meaning.specs.Notation.{Path, steps}
use Rattle.meaning.specs.Picks.{Asked, asked}
use Rattle.meaning.specs.Pages.{Paged}
use Rattle.meaning.specs.Refusals.{Lawful}
use Rattle.meaning.specs.Fit.{Fit}
use Rattle.meaning.proofs.Laws.Day.{lawful_fit}
use Rattle.cursors.specs.declared.Plan.{Plan}
use Rattle.cursors.specs.Plan.{plan_of}
use Rattle.plan.specs.Drawn.{Drawn}
use Rattle.pages.specs.RowParts.{PartOf}
use Rattle.pages.specs.RowKinds.{RowKind}
use Rattle.plan.proofs.Agreeing.{Agree, agree_back, evidence_agree, paged_agree}
use Rattle.plan.proofs.Drawing.{drawn_agrees, drawn_fit}

module _ {first width : ℕ → ℕ → ℕ} {is_row : Asked → ℕ → List ℕ → Type 0} {room : Asked → ℕ → ℕ} (kind : RowKind first width is_row room) where
  -- The part of a record's evidence that a row has, in a question that agrees with another, is the record's row in the other.
  row_agree : (a b : Asked) → Fit a → Fit b → Agree a b → (i : ℕ) (w : List ℕ) → PartOf a (first a.steps a.returned) (width a.steps a.returned) i w → is_row b i w
  row_agree a b fit_a fit_b g i w (row, x, e) =
      kind.is_part b fit_b i w (row, evidence_agree a b fit_a fit_b g i row x, e ∙ subst₂ (λ (k r : ℕ). take (width a.steps a.returned) (drop (first a.steps a.returned) row) ≡ take (width k r) (drop (first k r) row)) g.steps g.returned refl)

  -- The engine's page over the plan of a tree is a page of the tree's question.
  pub plan_page : (b : List ℕ) (p : Path) (d : Plan) → Lawful b → steps p ≤ most_steps → Drawn b p d → (place : ℕ) (entry exit : List ℕ) (r : Page)
      → Paged (plan_of b d) (PartOf (plan_of b d) (first d.count d.returned) (width d.count d.returned)) place (length entry / width d.count d.returned) entry exit r
      → Paged (asked b p) (is_row (asked b p)) place (room (asked b p) (length entry)) entry exit r
  unfolding plan_of
  plan_page b p d law few is place entry exit r x =
      let plan : Asked = plan_of b d in
      let agrees : Agree plan (asked b p) = agree_back (drawn_agrees b p d law few is) in
      let fits : Fit plan = drawn_fit b p d law few is in
      paged_agree plan (asked b p) fits (lawful_fit b p law) agrees (PartOf plan (first d.count d.returned) (width d.count d.returned)) (is_row (asked b p)) place
      (length entry / width d.count d.returned) (room (asked b p) (length entry)) entry exit r
      (subst₂ (λ (k r : ℕ). length entry / width d.count d.returned ≡ length entry / width k r) agrees.steps agrees.returned refl ∙ kind.has_room (asked b p) (length entry))
      (row_agree plan (asked b p) fits (lawful_fit b p law) agrees) x
