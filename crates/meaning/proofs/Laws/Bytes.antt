-- Parts of a list of bytes, with the numbers and labels in them, and bytes of a list of zeros.
use Prim.Native.Nat.{ℕ, zero, suc, ◌+◌, ◌*◌, ◌-◌, ◌≤◌, ◌<◌}
use native.Mathlib.Nat.{add-sub_cancel_left}
use native.Mathlib.Omega.{arith}
use mathlib.Core.Path.{◌≡◌, refl, ap, ◌∙◌}
use mathlib.Core.List.{List}
use lib.ListN.{take, drop, get_or, replicate}
use lib.Seq.{get_or-take, get_or-drop}
use Rattle.meaning.specs.Bytes.{at, u32_at}
use Rattle.meaning.specs.Day.{label_at}

-- The part from a place to n bytes further on, as code takes it, is the n bytes from there.
pub part_from : (b : List ℕ) (from n : ℕ) → take (from + n - from) (drop from b) ≡ take n (drop from b)
part_from b from n = ap (λ (k : ℕ). take k (drop from b)) (add-sub_cancel_left from n)

-- A byte of the part, whichever way the sum of its place is written.
byte_part : (b : List ℕ) (o n i j : ℕ) → i < n → o + i ≡ j → at (take n (drop o b)) i ≡ at b j
byte_part b o n i j h e = get_or-take n (drop o b) i 0 h ∙ get_or-drop o b i 0 ∙ ap (at b) e

-- A number in a part of the bytes is the number in the whole.
u32_part : (b : List ℕ) (o n i : ℕ) → i + 4 ≤ n → u32_at (take n (drop o b)) i ≡ u32_at b (o + i)
unfolding u32_at
u32_part b o n i h =
    omega (
      arith,
      byte_part b o n i (o + i) (omega arith) (omega arith),
      byte_part b o n (i + 1) (o + i + 1) (omega arith) (omega arith),
      byte_part b o n (i + 2) (o + i + 2) (omega arith) (omega arith),
      byte_part b o n (i + 3) (o + i + 3) (omega arith) (omega arith),
    )

-- So is a label: the body that is a part by itself begins at 0 there.
pub label_part : (b : List ℕ) (o n i : ℕ) → 8 * i + 8 ≤ n → label_at (take n (drop o b)) 0 i ≡ label_at b o i
label_part b o n i h = λ k. record { start = start k; end = end k }
  where
    start : u32_at (take n (drop o b)) (0 + 8 * i) ≡ u32_at b (o + 8 * i)
    start = u32_part b o n (0 + 8 * i) (omega arith) ∙ ap (u32_at b) (omega arith)

    end : u32_at (take n (drop o b)) (0 + 8 * i + 4) ≡ u32_at b (o + 8 * i + 4)
    end = u32_part b o n (0 + 8 * i + 4) (omega arith) ∙ ap (u32_at b) (omega arith)

-- In a list of zeros each number is zero, and past its end too.
pub zero_at : (n i : ℕ) → get_or {A = ℕ} (replicate n 0) i 0 ≡ 0
zero_at zero i = refl
zero_at (suc n) zero = refl
zero_at (suc n) (suc i) = zero_at n i
