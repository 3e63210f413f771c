-- What a kind of row keeps, and that the rows of both calls keep it.
use Rattle.std.specs.Prelude.{ℕ, ◌+◌, ◌/◌, ◌≤◌, ◌<◌, ◌≡◌, List, [], ◌∷◌, take, refl}
use Rattle.std.proofs.Common.{sym, ap, subst, ◌∙◌, arith}
use Rattle.std.proofs.Math.Seq.{drop-cons, take_all}
use Rattle.meaning.specs.Picks.{Asked, Evidence}
use Rattle.meaning.specs.Pages.{Position, answer_room, evidence_room}
use Rattle.meaning.specs.Fit.{Fit}
use Rattle.pages.specs.RowParts.{PartOf}

-- A row is the part of the cursors that begins at the step `first` and has `width` steps, both by the number of steps and the returned one.
-- It has at least one step, and steps of the question alone; that part of a record's evidence is the record's row; and there is room for as
-- many rows as a buffer holds whole.
pub record RowKind (first width : ℕ → ℕ → ℕ) (is_row : Asked → ℕ → List ℕ → Type 0) (room : Asked → ℕ → ℕ) : Type 0 where
  pub within : (k r : ℕ) → r < k → first k r + width k r ≤ k
  pub wide : (k r : ℕ) → r < k → 1 ≤ width k r
  pub is_part : (a : Asked) → Fit a → (i : ℕ) (w : List ℕ) → PartOf a (first a.steps a.returned) (width a.steps a.returned) i w → is_row a i w
  pub has_room : (a : Asked) (len : ℕ) → len / width a.steps a.returned ≡ room a len

-- A row of the answer call has the returned step alone: it is the record's position.
pub returned_kind : RowKind (λ k r. r) (λ k r. 1) (λ a. Position) answer_room
returned_kind = record {
  within = λ k r l. omega arith;
  wide = λ k r l. omega arith;
  is_part = λ a fit i w (row, x, e). e ∙ ap (take 1) (drop-cons row a.returned 0 (omega (arith, x.long, fit.returned_lt))) ∙ ap (λ (n : ℕ). n ∷ []) x.here;
  has_room = λ a len. omega arith;
}

-- A row of the evidence call has all steps: it is the record's evidence.
pub whole_kind : RowKind (λ k r. 0) (λ k r. k) Evidence evidence_room
whole_kind = record {
  within = λ k r l. omega arith;
  wide = λ k r l. omega arith;
  is_part = λ a fit i w (row, x, e). subst (Evidence a i) (sym (e ∙ take_all a.steps row (omega (arith, x.long)))) x;
  has_room = λ a len. refl;
}
