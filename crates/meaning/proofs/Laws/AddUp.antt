-- What the figures are to each other: each call is boarded, cancelled or open, and only one of these; and no wait is negative.
use Prim.Native.Nat.{ℕ, zero, suc, ◌+◌, ◌≤◌, ◌<◌}
use native.Mathlib.Omega.{arith}
use mathlib.Core.Path.{◌≡◌, refl}
use mathlib.Core.Logic.{inl, inr, ⊎_elim}
use Rattle.meaning.specs.declared.Figures.{Figures}
use Rattle.meaning.specs.Waits.{Ending, board, cancel, Traffic, Within, Ends, Ended, Closed, Open, wait_until, Figured}
use Rattle.meaning.specs.Fit.{Sound}
use Rattle.meaning.proofs.Decide.{or_not, le_decides}
use Rattle.meaning.proofs.Laws.Sum.{ones, sum_parts, number_all}
use Rattle.meaning.proofs.Laws.Waits.{not_both, open_unended}

module _ (w : Traffic) where
  -- A call that no record ends has none inside: of those inside one would start first.
  none_inside : {i : ℕ} → ((e : Ending) → Ended w e i → ⊥) → (m : ℕ) (e : Ending) (j : ℕ) → ((w.ended e).label j).start < m → Within w i e j → ⊥
  none_inside unended zero e j l x = omega arith
  none_inside unended (suc m) e j l x =
      unended e (j, record { within = x; first = λ f k y. ⊎_elim (λ h. h) (λ h. absurd (none_inside unended m f k (omega arith) y)) (or_not (le_decides ((w.ended e).label j).start ((w.ended f).label k).start)) })

  -- So it is open.
  unended_open : {i : ℕ} → ((e : Ending) → Ended w e i → ⊥) → Open w i
  unended_open unended e j x = none_inside unended (suc ((w.ended e).label j).start) e j (omega arith) x

  module _ {entries : ℕ} (sound : Sound w entries) where
    -- The record that ends a call's wait starts after the call, and so at no lesser time.
    pub waits_forward : {i j : ℕ} {e : Ending} → Ends w i e j → w.time (w.calls.label i).start ≤ w.time ((w.ended e).label j).start
    waits_forward {i} {j} {e} x = sound.forward (w.calls.label i).start ((w.ended e).label j).start (omega (arith, x.within.inside.after)) (sound.ended_timed e j x.within.is)

    -- So no wait is negative, and the call's time and the wait together are the time at which it ends.
    pub waits_until : {i j : ℕ} {e : Ending} → Ends w i e j → w.time (w.calls.label i).start + wait_until w i e j ≡ w.time ((w.ended e).label j).start
    waits_until x = omega (arith, waits_forward x)

    module _ {n : ℕ} {f : Figures} (x : Figured w n f) where
      -- Over how many the total is: the boarded and the cancelled.
      pub over_parts : f.boarded + f.cancelled ≡ f.over
      over_parts =
          sum_parts (ones (Closed w)) (λ i d e p q. not_both w sound p.0 q.0) (λ i d p. (inl p.0, p.1)) (λ i d q. (inr q.0, q.1))
          (λ i p q d r. ⊎_elim (λ h. p d (h, r.1)) (λ h. q d (h, r.1)) r.0) x.boarded x.cancelled x.over

      -- Boarded, cancelled and open add up to the calls.
      pub figures_add_up : f.boarded + f.cancelled + f.left_open ≡ f.calls
      figures_add_up =
          omega (
            arith,
            over_parts,
            x.calls,
            sum_parts (ones (λ i. Unit)) (λ i d e p q. ⊎_elim (open_unended w q.0 board) (open_unended w q.0 cancel) p.0) (λ i d p. (tt, p.1)) (λ i d q. (tt, q.1))
                (λ i p q d r. q 1 (unended_open (unended i p), refl)) x.over x.left_open (number_all n),
          )
        where
          unended : (i : ℕ) → ((d : ℕ) → Closed w i × (d ≡ 1) → ⊥) → (e : Ending) → Ended w e i → ⊥
          unended i p board h = p 1 (inl h, refl)
          unended i p cancel h = p 1 (inr h, refl)
