-- The first unknown step with one step more, whose name is unknown.
use Prim.Native.Nat.{ℕ, ◌+◌}
use mathlib.Core.Path.{◌≡◌, refl, sym, ap, subst, ◌∙◌}
use Rattle.std.specs.Prelude.{Option, Some, None}
use Rattle.std.specs.Option.{option_or}
use Rattle.meaning.specs.Pages.{First, here, nowhere}
use Rattle.meaning.proofs.Laws.Found.{first_kept, first_new}
use Rattle.plan.specs.Drawn.{FirstOf}

-- Of an unknown step that was found before and a later one, `or` gives the first.
pub or_first : (unknown : Option ℕ) (s : ℕ) → FirstOf unknown s (option_or unknown (Some s))
or_first None s = record { none_before = λ e. refl; one_before = λ some. absurd (some refl) }
or_first (Some u) s = record { none_before = λ e. cc; one_before = λ some. refl }

-- So the first unknown step with one more is told.
pub first_here : {Such : ℕ → Type 0} {s : ℕ} {u r : Option ℕ} → First Such s u → Such s → FirstOf u s r → First Such (s + 1) r
first_here {Such} {s} (here {s = u} l h before) such f = subst (First Such (s + 1)) (sym (f.one_before (λ e. cc))) (first_kept (s + 1) refl (here {s = u} l h before) (u, l, h))
first_here {Such} {s} (nowhere none) such f = subst (First Such (s + 1)) (sym (f.none_before refl)) (first_new (s + 1) refl none such)

-- What is told after an unknown step is the first one, where it is that step's number that goes in.
pub told_first : {unknown or first : Option ℕ} {s t : ℕ} → first ≡ or → or ≡ option_or unknown (Some t) → t ≡ s → FirstOf unknown s first
told_first {unknown} {s = s} {t = t} e f same = subst (FirstOf unknown s) (sym (e ∙ f ∙ ap (λ (k : ℕ). option_or unknown (Some k)) same)) (or_first unknown s)
