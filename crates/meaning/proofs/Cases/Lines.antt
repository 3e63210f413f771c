-- Lines that the program prints, as document 01 shows them.
use Prim.Native.Nat.{ℕ, zero, suc, ◌-◌, ◌^◌, ◌≤◌, ◌<◌}
use native.Mathlib.Omega.{arith}
use mathlib.Core.Path.{◌≡◌, refl}
use mathlib.Core.Logic.{◌⊎◌, inl, inr}
use mathlib.Core.Bool.{Bool, true, false, ◌&&◌}
use mathlib.Core.List.{List, [], ◌∷◌, ◌++◌}
use lib.Dec.{T, leb, ltb}
use lib.ListN.{length}
use Rattle.meaning.specs.declared.Label.{Label}
use Rattle.meaning.specs.Names.{same}
use Rattle.meaning.specs.Answers.{Decides}
use Rattle.meaning.specs.Printing.{digits, Decimal, RecordText, one, more, LineText}
use Rattle.meaning.proofs.Decide.{passed, le_decides, lt_decides, and_decides, either_decides}
use Rattle.meaning.proofs.Laws.Same.{same_decides}
use Rattle.meaning.proofs.Cases.SmallDay.{bytes}

-- What the test finds about a number and its text: at least one digit, enough to hold it, no more than that, and the right ones.
abbrev Facts : ℕ → List ℕ → Type 0
Facts n w = (1 ≤ length w) × ((n < 10 ^ length w) × (((length w ≤ 1) ⊎ (10 ^ (length w - 1) ≤ n)) × (w ≡ digits (length w) n)))

unfoldable decimal_b : ℕ → List ℕ → Bool
decimal_b n w = leb 1 (length w) && (ltb n (10 ^ length w) && (elim (leb (length w) 1) [ true ↦ true | false ↦ leb (10 ^ (length w - 1)) n ] && same w (digits (length w) n)))

-- The test decides it.
decimal_decides : (n : ℕ) (w : List ℕ) → Decides (Facts n w) (decimal_b n w)
unfolding decimal_b
decimal_decides n w =
    and_decides (le_decides 1 (length w))
    (and_decides (lt_decides n (10 ^ length w)) (and_decides (either_decides (le_decides (length w) 1) (le_decides (10 ^ (length w - 1)) n)) (same_decides w (digits (length w) n))))

-- A text that passes is the number's.
decimal : (n : ℕ) (w : List ℕ) → T (decimal_b n w) → Decimal n w
decimal n w t =
    let f = passed (decimal_decides n w) t in
    record { places = length w; some = f.0; held = f.1.0; few = few f.1.1.0; written = f.1.1.1 }
  where
    few : (length w ≤ 1) ⊎ (10 ^ (length w - 1) ≤ n) → 1 < length w → 10 ^ (length w - 1) ≤ n
    few (inl h) l = absurd (omega arith)
    few (inr h) l = h

-- A record's text, from those of its numbers.
record_text : (l : Label) (s e : List ℕ) → T (decimal_b l.start s) → T (decimal_b l.end e) → RecordText l (s ++ 58 ∷ e)
record_text l s e t u = record { start = s; end = e; start_is = decimal l.start s t; end_is = decimal l.end e u; written = refl }

-- The records of a row of two steps.
abbrev pub two : Label → Label → ℕ → Label
two a b zero = a
two a b (suc s) = b

abbrev pub lab : ℕ → ℕ → Label
lab s e = record { start = s; end = e }

-- The first line and the last of document 01's example.
pub first_line : LineText (two (lab 1 20) (lab 8 9)) 2 (bytes "1:20 8:9" ++ 10 ∷ [])
unfolding bytes decimal_b same
first_line = record {
  records = bytes "1:20 8:9";
  records_are = more (one (record_text (lab 1 20) (bytes "1") (bytes "20") tt tt)) (record_text (lab 8 9) (bytes "8") (bytes "9") tt tt);
  written = refl;
}

pub last_line : LineText (two (lab 21 26) (lab 22 23)) 2 (bytes "21:26 22:23" ++ 10 ∷ [])
unfolding bytes decimal_b same
last_line = record {
  records = bytes "21:26 22:23";
  records_are = more (one (record_text (lab 21 26) (bytes "21") (bytes "26") tt tt)) (record_text (lab 22 23) (bytes "22") (bytes "23") tt tt);
  written = refl;
}

-- A line of one step has no blank; the least number has one digit and the greatest ten.
pub widest_line : LineText (λ s. lab 0 4_294_967_295) 1 (bytes "0:4294967295" ++ 10 ∷ [])
unfolding bytes decimal_b same
widest_line = record { records = bytes "0:4294967295"; records_are = one (record_text (lab 0 4_294_967_295) (bytes "0") (bytes "4294967295") tt tt); written = refl }
