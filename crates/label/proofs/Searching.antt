-- Searching a body whose labels ascend by start: a look at one of them settles all those on its one side. This is why doubling and halving
-- find the number, in whatever code.
use Prim.Native.Nat.{ℕ, ◌+◌, ◌≤◌, ◌<◌}
use native.Mathlib.Omega.{arith}
use mathlib.Core.List.{List}
use Rattle.meaning.specs.Day.{label_at}
use Rattle.meaning.proofs.Laws.Label.{no_later}
use Rattle.label.specs.Started.{Ascends, Between, Started}

module _ (b : List ℕ) (at n v : ℕ) where
  -- Before the first look the number may be any from 0 to n.
  pub unsettled : Between b at n v 0 n
  unsettled = record { ordered = omega arith; within = omega arith; first = λ i l. absurd (omega arith); rest = λ i l k. absurd (omega arith) }

  -- Where no other is left it is `low`.
  pub settled : {low high : ℕ} → Between b at n v low high → high ≤ low → Started b at n v low
  settled w none = record {
    within = omega (arith, w.ordered, w.within);
    first = λ i l. w.first i (omega arith);
    rest = λ i l k. w.rest i (omega arith) k;
  }

  -- A number from `low` to `high` is one from l to h, where these reach no less far.
  pub widen : {low high : ℕ} → Between b at n v low high → (l h : ℕ) → l ≤ low → high ≤ h → h ≤ n → Between b at n v l h
  widen w l h ll hh hn = record {
    ordered = omega (arith, w.ordered);
    within = hn;
    first = λ j k. w.first j (omega arith);
    rest = λ j k. w.rest j (omega arith);
  }

  module _ (ascends : Ascends b at n) {low high : ℕ} (w : Between b at n v low high) (i l h : ℕ) where
    -- Label i starts at or before v: the number is more than i.
    pub settle_up : l ≤ i + 1 → high ≤ h → l ≤ h → h ≤ n → i < n → (label_at b at i).start ≤ v → Between b at n v l h
    settle_up li hh lh hn il here = record {
      ordered = lh;
      within = hn;
      first = λ j k. omega (arith, no_later (label_at b at) n ascends j i (omega arith) il);
      rest = λ j k. w.rest j (omega arith);
    }

    -- Label i starts after v: the number is at most i.
    pub settle_down : l ≤ low → i ≤ h → l ≤ h → h ≤ n → v < (label_at b at i).start → Between b at n v l h
    settle_down ll ih lh hn here = record {
      ordered = lh;
      within = hn;
      first = λ j k. w.first j (omega arith);
      rest = λ j k m. omega (arith, no_later (label_at b at) n ascends i j (omega arith) m);
    }
