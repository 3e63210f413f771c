-- The labels that are left between two numbers, as chunks of 8 bytes: they ascend by start, so that a search of the chunks for the first that
-- starts after v finds how many labels of the body start at or before v.
use Prim.Native.Nat.{ℕ, zero, suc, ◌+◌, ◌-◌, ◌*◌, ◌≤◌, ◌<◌}
use native.Mathlib.Omega.{arith}
use mathlib.Core.Path.{◌≡◌, refl, ap, ◌∙◌}
use mathlib.Core.Logic.{◌⊎◌, inl, inr}
use mathlib.Core.Bool.{true, false}
use mathlib.Core.List.{List, []}
use lib.Dec.{leb}
use lib.ListN.{length, take, drop, get_or}
use Rattle.std.specs.Simd.{first_chunks}
use Rattle.std.specs.List.Sorted.{IsPartitionedBy, IsPartitionPoint}
use Rattle.std.proofs.lemmas.Bool.{leb-true, leb-false, cases_lt}
use Rattle.std.proofs.lemmas.List.{drop-drop}
use Rattle.std.proofs.lemmas.List.Sorted.{IsPartitionedBy-leb}
use Rattle.meaning.specs.Bytes.{u32_at}
use Rattle.meaning.specs.Day.{label_at}
use Rattle.meaning.specs.declared.Label.{Label}
use Rattle.meaning.proofs.Laws.Bytes.{label_part}
use Rattle.meaning.proofs.Laws.Label.{no_later}
use Rattle.label.specs.Started.{Ascends, Between, Started}
use Rattle.label.proofs.Searching.{settled, widen, settle_up, settle_down}

-- A chunk by its number.
chunk_at : (count : ℕ) (s : List ℕ) (i : ℕ) (d : List ℕ) → i < count → get_or (first_chunks 8 count s) i d ≡ take 8 (drop (8 * i) s)
chunk_at zero s i d l = absurd (omega arith)
chunk_at (suc count) s zero d l = refl
chunk_at (suc count) s (suc i) d l = chunk_at count (drop 8 s) i d (omega arith) ∙ ap (take 8) (drop-drop (8 * i) 8 s ∙ ap (λ (k : ℕ). drop k s) (omega arith))

module _ (b : List ℕ) (at n v low high : ℕ) (ascends : Ascends b at n) (w : Between b at n v low high) where
  module _ (chunks : List (List ℕ)) (count m : ℕ) (are : chunks ≡ first_chunks 8 count (take m (drop (at + 8 * low) b))) (many : length chunks ≡ count) (counted : count ≡ high - low) (long : m ≡ 8 * (high - low)) where
    -- A chunk begins with the start of a label that is left.
    begins : (i : ℕ) (d : List ℕ) → i < count → u32_at (get_or chunks i d) 0 ≡ (label_at b at (low + i)).start
    begins i d l =
        let part : List ℕ = take m (drop (at + 8 * low) b) in
        ap (λ (c : List (List ℕ)). u32_at (get_or c i d) 0) are
        ∙ ap (λ (c : List ℕ). u32_at c 0) (chunk_at count part i d l)
        ∙ ap (λ (a : Label). a.start) (label_part part (8 * i) 8 0 (omega arith))
        ∙ ap (u32_at part) (omega arith)
        ∙ ap (λ (a : Label). a.start) (label_part b (at + 8 * low) m i (omega arith))
        ∙ ap (u32_at b) (omega arith)

    -- So the chunks that start at or before v come before the others.
    pub chunks_parted : IsPartitionedBy (λ c. leb (u32_at c 0) v) chunks
    chunks_parted =
        IsPartitionedBy-leb (λ c. u32_at c 0) chunks v
        (λ i j d ij jl. omega (arith, begins i d (omega arith), begins j d (omega arith), no_later (label_at b at) n ascends (low + i) (low + j) (omega arith) (omega (arith, w.within, w.ordered))))

    -- Where r of them do, `low` and r labels of the body do: the last of these and the one behind them settle all others.
    pub chunks_settle : (r : ℕ) → r ≤ length chunks → IsPartitionPoint (λ c. leb (u32_at c 0) v ≡ true) (λ c. leb (u32_at c 0) v ≡ false) chunks r → Started b at n v (low + r)
    chunks_settle r within (yes_before, no_behind) = settled b at n v (down (cases_lt r count)) (omega arith)
      where
        up : (r < 1) ⊎ (1 ≤ r) → Between b at n v (low + r) high
        up (inl none) = widen b at n v w (low + r) high (omega arith) (omega arith) w.within
        up (inr some) =
            settle_up b at n v ascends w (low + (r - 1)) (low + r) high (omega arith) (omega arith) (omega (arith, w.ordered)) w.within (omega (arith, w.within, w.ordered))
            (omega (arith, leb-true _ _ (yes_before (r - 1) [] (omega arith) (omega arith)), begins (r - 1) [] (omega arith)))

        down : (r < count) ⊎ (count ≤ r) → Between b at n v (low + r) (low + r)
        down (inl more) =
            settle_down b at n v ascends (up (cases_lt r 1)) (low + r) (low + r) (low + r) (omega arith) (omega arith) (omega arith) (omega (arith, w.within, w.ordered))
            (omega (arith, leb-false _ _ (no_behind r [] (omega arith) (omega arith)), begins r [] (omega arith)))
        down (inr all) = widen b at n v (up (cases_lt r 1)) (low + r) (low + r) (omega arith) (omega (arith, w.ordered)) (omega (arith, w.within, w.ordered))
