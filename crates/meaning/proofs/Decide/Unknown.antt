-- The first step whose name no row has, as antt computes it.
use Prim.Native.Nat.{ℕ, zero, suc, ◌<◌}
use native.Mathlib.Omega.{arith}
use mathlib.Core.Path.{◌≡◌, refl, sym, ap, subst}
use mathlib.Core.Bool.{Bool, true, false, not}
use mathlib.Core.List.{List}
use lib.Dec.{eqb}
use Rattle.std.specs.Prelude.{Option, Some, None, unwrap_or}
use Rattle.std.proofs.lemmas.Option.{none-some}
use Rattle.meaning.specs.Answers.{Decides, holds, fails}
use Rattle.meaning.specs.Names.{filled, same}
use Rattle.meaning.specs.Day.{tags, name_field, Finds}
use Rattle.meaning.specs.Notation.{Path, steps}
use Rattle.meaning.specs.Picks.{step_at}
use Rattle.meaning.specs.Pages.{First, nowhere, FirstUnknown}
use Rattle.meaning.proofs.Decide.{decides_as, eq_decides, not_decides, some, some_decides}
use Rattle.meaning.proofs.Laws.Same.{same_decides}
use Rattle.meaning.proofs.Laws.Found.{first_kept, first_new, first_on, first_one}

-- No row has the name.
unfoldable pub no_row_b : List ℕ → List ℕ → Bool
no_row_b b n = not (some (tags b) (λ r. same (name_field b r) (filled n)))

no_row_decides : (b n : List ℕ) → Decides (Finds b n None) (no_row_b b n)
unfolding no_row_b
no_row_decides b n =
    decides_as (λ h r x. h (r, x.0, x.1)) (λ h x. h x.0 (x.1, x.2)) (not_decides (some_decides (tags b) (λ r l. same_decides (name_field b r) (filled n))))

-- The first number below n that passes, if one does.
unfoldable pub first_passing : ℕ → (ℕ → Bool) → Option ℕ
first_passing zero f = None
first_passing (suc n) f = elim (some n f) [ true ↦ first_passing n f | false ↦ elim (f n) [ true ↦ Some n | false ↦ None ] ]

first_is : {Such : ℕ → Type 0} {f : ℕ → Bool} → ((j : ℕ) → Decides (Such j) (f j)) → (n : ℕ) → First Such n (first_passing n f)
unfolding first_passing
first_is d zero = nowhere (λ j l. absurd (omega arith))
first_is {Such} {f} d (suc n) = go (some_decides n (λ j l. d j)) (d n) (first_is d n)
  where
    go : {a b : Bool} {m : Option ℕ} → Decides ((j : ℕ) × (j < n) × Such j) a → Decides (Such n) b → First Such n m
        → First Such (suc n) (elim a [ true ↦ m | false ↦ elim b [ true ↦ Some n | false ↦ None ] ])
    go (holds p) e first = first_kept (suc n) (omega arith) first p
    go (fails p) (holds h) first = first_new (suc n) (omega arith) (λ j l g. p (j, l, g)) h
    go (fails p) (fails q) first = first_on (suc n) (omega arith) (nowhere (λ j l g. p (j, l, g))) q

-- The unknown step that a result tells.
unfoldable pub unknown_of : List ℕ → Path → Option ℕ
unknown_of b p = first_passing (steps p) (λ j. no_row_b b (step_at p j).name)

unknown_is : (b : List ℕ) (p : Path) → FirstUnknown b p (unknown_of b p)
unfolding unknown_of
unknown_is b p = first_is (λ j. no_row_decides b (step_at p j).name) (steps p)

-- Two steps are the same, or both are none.
unfoldable pub same_step : Option ℕ → Option ℕ → Bool
same_step None None = true
same_step None (Some t) = false
same_step (Some s) None = false
same_step (Some s) (Some t) = eqb s t

same_step_decides : (m n : Option ℕ) → Decides (m ≡ n) (same_step m n)
unfolding same_step
same_step_decides None None = holds refl
same_step_decides None (Some t) = fails (none-some t)
same_step_decides (Some s) None = fails (λ e. none-some s (sym e))
same_step_decides (Some s) (Some t) = decides_as (ap Some) (ap (λ (m : Option ℕ). unwrap_or m 0)) (eq_decides s t)

-- Since it is one, a step is it exactly if it is equal.
pub unknown_decides : (b : List ℕ) (p : Path) (s : Option ℕ) → Decides (FirstUnknown b p s) (same_step (unknown_of b p) s)
unknown_decides b p s = decides_as (λ e. subst (FirstUnknown b p) e (unknown_is b p)) (λ u. first_one (unknown_is b p) u) (same_step_decides (unknown_of b p) s)
