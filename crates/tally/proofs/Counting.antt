-- What one call more makes of the figures, by what becomes of it.
use Prim.Native.Nat.{ℕ, ◌+◌, ◌*◌, ◌-◌, ◌≤◌}
use native.Mathlib.Omega.{arith}
use mathlib.Core.Path.{◌≡◌, ap}
use mathlib.Core.List.{List}
use lib.ListN.{length}
use Rattle.meaning.specs.declared.Figures.{Figures}
use Rattle.meaning.specs.Limits.{most_labels}
use Rattle.meaning.specs.Bytes.{at}
use Rattle.meaning.specs.Waits.{Ending, board, cancel, Traffic, traffic_of, Ends, Figured}
use Rattle.meaning.specs.Fit.{Sound}
use Rattle.meaning.proofs.Laws.Sum.{number_within}
use Rattle.meaning.proofs.Laws.Waits.{figured_ended, figured_open}
use Rattle.tally.specs.declared.Outcome.{Outcome}
use Rattle.tally.specs.declared.Outcome.TheVariants.{Boarded, Cancelled, Open}
use Rattle.tally.specs.Sights.{Becomes}
use Rattle.tally.specs.Adding.{Small, WaitTimed, Timed, added}

-- Figures of no more calls than a day can have are small.
pub figured_small : {w : Traffic} {n : ℕ} {f : Figures} → Figured w n f → n ≤ most_labels → f.total ≤ n * 4_294_967_295 → Small f
figured_small x few total = record {
  calls = omega (arith, x.calls);
  boarded = omega (arith, number_within x.boarded);
  cancelled = omega (arith, number_within x.cancelled);
  left_open = omega (arith, number_within x.left_open);
  over = omega (arith, number_within x.over);
  total = omega arith;
}

module _ (calls boards cancels times : List ℕ) (sound : Sound (traffic_of calls boards cancels times) (length times)) (i : ℕ) where
  abbrev w : Traffic
  w = traffic_of calls boards cancels times

  -- The wait of a call that a record ends has its times.
  ends_timed : (e : Ending) (j s : ℕ) → Ends w i e j → s ≡ ((w.ended e).label j).start → WaitTimed times (w.calls.label i).start s
  ends_timed e j s x is = record { onward = omega (arith, is, x.within.inside.after); within = omega (arith, is, sound.ended_timed e j x.within.is); forward = sound.forward }

  pub becomes_timed : (r : Outcome) → Becomes w i r → Timed times (w.calls.label i).start r
  becomes_timed (Boarded s) (j, x, is) = ends_timed board j s x is
  becomes_timed (Cancelled s) (j, x, is) = ends_timed cancel j s x is
  becomes_timed Open x = tt

  -- The figures of the calls before, with what the call adds, are those with the call.
  pub figured_added : {f : Figures} → Figured w i f → (r : Outcome) → Becomes w i r → (k : ℕ) → k ≡ i + 1 → Figured w k (added (at times) (w.calls.label i).start f r)
  figured_added x (Boarded s) (j, h, is) k more = figured_ended w sound x board j (at times s - at times (w.calls.label i).start) h (ap (λ (n : ℕ). at times n - at times (w.calls.label i).start) is) k more
  figured_added x (Cancelled s) (j, h, is) k more = figured_ended w sound x cancel j (at times s - at times (w.calls.label i).start) h (ap (λ (n : ℕ). at times n - at times (w.calls.label i).start) is) k more
  figured_added x Open h k more = figured_open w sound x h k more
