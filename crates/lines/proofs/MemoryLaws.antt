-- Behind what is written, the memory of a line stays 0.
use Prim.Native.Nat.{ℕ, ◌+◌, ◌-◌, ◌≤◌, ◌<◌}
use native.Mathlib.Omega.{arith}
use mathlib.Core.Path.{◌≡◌, sym, ap, ◌∙◌}
use mathlib.Core.List.{List}
use lib.ListN.{length, drop, replicate, set, length-set}
use borrow.Rule.Slice.PartMut.{put_mid, mid_len, same_len_mid}
use Rattle.std.proofs.lemmas.List.{drop-drop, drop-replicate, drop-set-lt}
use Rattle.std.proofs.lemmas.Slice.{drop-put_mid}
use Rattle.lines.specs.Adding.{most_line}
use Rattle.lines.specs.Memory.{Holds}

module _ {size used : ℕ} {bytes : List ℕ} (h : Holds size used bytes) where
  -- There are zeros from any place on that isn't written.
  blank_from : (n : ℕ) → used ≤ n → drop n bytes ≡ replicate (size - n) 0
  blank_from n l =
      ap (λ (k : ℕ). drop k bytes) (omega arith) ∙ sym (drop-drop (n - used) used bytes) ∙ ap (drop (n - used)) h.blank
      ∙ drop-replicate (n - used) (size - used) 0 ∙ ap (λ (k : ℕ). replicate k 0) (omega arith)

  -- One byte more is written.
  pub holds_more : (byte : ℕ) → used < most_line → used < size → Holds size (used + 1) (set bytes used byte)
  holds_more byte l m = record {
    within = omega arith;
    fits = omega arith;
    whole = length-set bytes used byte ∙ h.whole;
    blank = drop-set-lt (used + 1) bytes used byte (omega arith) ∙ blank_from (used + 1) (omega arith);
  }

  -- All bytes up to a place are written.
  pub holds_part : (end : ℕ) (part : List ℕ) → used ≤ end → end ≤ most_line → end ≤ size → length part ≡ end - used
      → Holds size end (put_mid used (end - used) bytes part)
  holds_part end part l m k long = record {
    within = m;
    fits = k;
    whole = same_len_mid used (end - used) bytes part (long ∙ sym (mid_len used end bytes (omega (arith, h.whole)))) ∙ h.whole;
    blank = drop-put_mid used (end - used) bytes part end (omega arith) (omega (arith, h.whole, h.fits)) long ∙ blank_from end l;
  }
