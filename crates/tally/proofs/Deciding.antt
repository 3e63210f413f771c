-- What becomes of a call, from where the first boarding and the first cancellation inside it start.
use Prim.Native.Nat.{ℕ, ◌≤◌}
use native.Mathlib.Omega.{arith}
use mathlib.Core.Path.{◌≡◌, subst}
use Rattle.std.specs.Prelude.{Option, Some, None, IfSome}
use Rattle.meaning.specs.Waits.{Ending, board, cancel, Traffic, Within, Ends}
use Rattle.tally.specs.declared.Outcome.{Outcome}
use Rattle.tally.specs.declared.Outcome.TheVariants.{Boarded, Cancelled, Open}
use Rattle.tally.specs.Sights.{FirstStart, first, nothing, Decided, Becomes}

-- The other of the two endings.
abbrev other : Ending → Ending
other board = cancel
other cancel = board

-- What holds of an ending and of the other holds of each.
either : (P : Ending → Type 0) (e : Ending) → P e → P (other e) → (f : Ending) → P f
either P board x y board = x
either P board x y cancel = y
either P cancel x y board = y
either P cancel x y cancel = x

module _ (w : Traffic) (i : ℕ) where
  -- Where the first of an ending starts, seen from the call.
  abbrev Seen : Ending → Option ℕ → Type 0
  Seen e s = FirstStart (w.ended e) (w.calls.label i) s

  -- None inside the call starts before a number that the first does not start before.
  none_before : (e : Ending) (o : Option ℕ) → Seen e o → (s : ℕ) → IfSome o (λ t. s ≤ t) → (k : ℕ) → Within w i e k → s ≤ ((w.ended e).label k).start
  none_before e (Some t) (first j l h is least) s no_sooner k x = omega (arith, no_sooner, least k x.is x.inside)
  none_before e None (nothing none) s no_sooner k x = absurd (none k x.is x.inside)

  -- The one that the other does not start before ends the wait.
  sooner_ends : (e : Ending) (s : ℕ) (o : Option ℕ) → Seen e (Some s) → Seen (other e) o → IfSome o (λ t. s ≤ t) → (j : ℕ) × Ends w i e j × (s ≡ ((w.ended e).label j).start)
  sooner_ends e s o (first j jl h is least) y no_sooner = (j, record { within = record { is = jl; inside = h }; first = either Least e (λ k x. omega (arith, is, least k x.is x.inside)) (λ k x. omega (arith, is, none_before (other e) o y s no_sooner k x)) }, is)
    where
      Least : Ending → Type 0
      Least f = (k : ℕ) → Within w i f k → ((w.ended e).label j).start ≤ ((w.ended f).label k).start

  -- Where there is neither, the call is open.
  neither : Seen board None → Seen cancel None → (f : Ending) (k : ℕ) → Within w i f k → ⊥
  neither (nothing none) (nothing empty) board k z = none k z.is z.inside
  neither (nothing none) (nothing empty) cancel k z = empty k z.is z.inside

  -- What is seen decides what becomes of the call.
  pub becomes : (s t : Option ℕ) → Seen board s → Seen cancel t → (r : Outcome) → Decided s t r → Becomes w i r
  becomes s t x y (Boarded u) (e, l) = sooner_ends board u t (subst (Seen board) e x) y l
  becomes s t x y (Cancelled u) (e, l) = sooner_ends cancel u s (subst (Seen cancel) e y) x l
  becomes s t x y Open (e, f) = neither (subst (Seen board) e x) (subst (Seen cancel) f y)
