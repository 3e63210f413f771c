-- The memory of a line: what is written of it, and zeros behind that.
use Rattle.std.specs.Prelude.{ℕ, ◌-◌, ◌≤◌, ◌≡◌, List, ◌++◌, length, take, drop, replicate}
use Rattle.std.proofs.Common.{arith, ap, sym, ◌∙◌, length-take-le, take-append-drop}
use Rattle.lines.specs.Adding.{most_line}

-- In a memory of this size so many bytes are written, no more than a line can have, and those behind them are 0.
pub record Holds (size used : ℕ) (bytes : List ℕ) : Type 0 where
  pub within : used ≤ most_line
  pub fits : used ≤ size
  pub whole : length bytes ≡ size
  pub blank : drop used bytes ≡ replicate (size - used) 0

-- The memory of this size in which a line is written.
abbrev pub memory : ℕ → List ℕ → List ℕ
memory size line = line ++ replicate (size - length line) 0

module _ {size used : ℕ} {bytes : List ℕ} (h : Holds size used bytes) where
  -- What is written says how much it is,
  pub used_back : length (take used bytes) ≡ used
  used_back = length-take-le used bytes (omega (arith, h.fits, h.whole))

  -- and with that all of the memory.
  pub memory_back : memory size (take used bytes) ≡ bytes
  memory_back =
      ap (λ (n : ℕ). take used bytes ++ replicate (size - n) 0) used_back
      ∙ ap (λ (rest : List ℕ). take used bytes ++ rest) (sym h.blank) ∙ take-append-drop used bytes
