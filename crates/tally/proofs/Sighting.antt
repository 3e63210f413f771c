-- What a look from a call finds: the first record that starts after the call is the first inside it, or there is none.
use Prim.Native.Nat.{ℕ, ◌/◌, ◌≤◌, ◌<◌}
use native.Mathlib.Omega.{arith}
use mathlib.Core.Path.{◌≡◌}
use mathlib.Core.Logic.{⊎_elim}
use mathlib.Core.List.{List}
use lib.ListN.{length}
use Rattle.std.specs.Prelude.{Some, None}
use Rattle.meaning.specs.declared.Label.{Label}
use Rattle.meaning.specs.Labels.{Inside}
use Rattle.meaning.specs.Day.{label_at}
use Rattle.meaning.specs.Waits.{in_body}
use Rattle.meaning.proofs.Decide.{or_not, le_decides}
use Rattle.meaning.proofs.Laws.Label.{no_later}
use Rattle.label.specs.Started.{Ascends, Between, Started}
use Rattle.tally.specs.Sights.{Whole, FirstStart, first, nothing}

-- A place moves on only forward: records that start no later than the call are not counted off again.
pub moves_on : {body : List ℕ} {n v from p : ℕ} → Between body 0 n v from n → Started body 0 n v p → from ≤ p
moves_on {from = from} {p = p} b s = ⊎_elim (λ l. l) (λ h. absurd (omega (arith, b.first p (omega arith), s.rest p (omega arith) (omega (arith, b.ordered))))) (or_not (le_decides from p))

module _ (body : List ℕ) (c : Label) (p : ℕ) (ascends : Ascends body 0 (length body / 8)) (whole : Whole (in_body body) c) (started : Started body 0 (length body / 8) c.start p) where
  -- What lies inside the call starts after it, and so stands at the place or behind it.
  behind : (k : ℕ) → Inside (label_at body 0 k) c → p ≤ k
  behind k h = ⊎_elim (λ l. l) (λ n. absurd (omega (arith, started.first k (omega arith), h.after))) (or_not (le_decides p k))

  from_place : (k : ℕ) → k < length body / 8 → Inside (label_at body 0 k) c → (label_at body 0 p).start ≤ (label_at body 0 k).start
  from_place k l h = no_later (label_at body 0) (length body / 8) ascends p k (behind k h) l

  -- The list ends there: then none lies inside.
  pub sees_end : length body / 8 ≤ p → FirstStart (in_body body) c None
  sees_end e = nothing (λ k l h. omega (arith, behind k h))

  -- Its next record starts no sooner than the call ends: then none lies inside either.
  pub sees_later : c.end ≤ (label_at body 0 p).start → FirstStart (in_body body) c None
  sees_later e = nothing (λ k l h. omega (arith, from_place k l h, whole.ordered k l, h.before))

  -- Its next record starts before the call ends: then it lies inside.
  pub sees_first : (s : ℕ) → p < length body / 8 → s < c.end → s ≡ (label_at body 0 p).start → FirstStart (in_body body) c (Some s)
  sees_first s l before is =
      first p l (whole.inside p l (started.rest p (omega arith) l) (omega arith)) is (λ k kl h. omega (arith, from_place k kl h))
