-- The promises of reading a step and of leaving a bracket fix the outcome: what is handed on by two readings that satisfy one is equal.
use Prim.Native.Nat.{ℕ}
use mathlib.Core.Path.{◌≡◌, refl, sym, ap, ◌∙◌}
use mathlib.Core.List.{List}
use lib.ListN.{drop}
use Rattle.std.specs.Prelude.{Option, Result, Ok}
use Rattle.meaning.proofs.Laws.Name.{name_same}
use Rattle.draft.specs.declared.Broken.{Broken}
use Rattle.draft.specs.declared.Draft.{Draft}
use Rattle.draft.specs.Drafts.{stepped}
use Rattle.draft.specs.Steps.{FoundStep, NoStep, StepRead, taken, missing, LeftBracket, shut, unshut}

-- The text t.
module _ {t : List ℕ} where
  -- Two steps that stand at one place have one name.
  one_name : {at e e' : ℕ} (f : FoundStep t at e) (g : FoundStep t at e') → f.name ≡ g.name
  one_name {at} {e} {e'} f g = (name_same f.name g.name (drop e t) (drop e' t) f.proper g.proper f.halts g.halts (ap (drop 2) (sym f.text ∙ g.text))).0

  -- Where a step stands, it is not so that none does.
  stands : {at e : ℕ} → FoundStep t at e → NoStep t at → ⊥
  stands {e = e} f none = none f.name (drop e t) f.proper f.halts f.text

  -- What reading a step hands on is one thing.
  pub step_fixed : {hang : Option ℕ} {d : ℕ} {q : Draft} {r s : Result Draft Broken} → StepRead t hang d q r → StepRead t hang d q s → r ≡ s
  step_fixed {hang} {d} {q} (taken f w) (taken g v) = ap Ok (w ∙ ap (stepped q hang d) (one_name f g) ∙ sym v)
  step_fixed (taken f w) (missing n) = absurd (stands f n)
  step_fixed (missing n) (taken g v) = absurd (stands g n)
  step_fixed (missing n) (missing m) = refl

  -- What leaving a bracket hands on is one thing.
  pub leave_fixed : {me : ℕ} {q : Draft} {r s : Result Draft Broken} → LeftBracket t me q r → LeftBracket t me q s → r ≡ s
  leave_fixed (shut z w) (shut y v) = ap Ok (w ∙ sym v)
  leave_fixed (shut z w) (unshut n) = absurd (n z)
  leave_fixed (unshut n) (shut y v) = absurd (n y)
  leave_fixed (unshut n) (unshut m) = refl
