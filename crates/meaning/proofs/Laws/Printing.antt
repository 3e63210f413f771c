-- The line that is printed for a row is fixed by the labels of its steps.
use Prim.Native.Nat.{ℕ, ◌-◌, ◌^◌, ◌≤◌}
use native.Mathlib.Omega.{arith}
use native.Mathlib.Nat.{pow-le-pow_right, le_antisymm}
use native.Mathlib.Decide.{dec_le}
use mathlib.Core.Path.{◌≡◌, sym, ap, ap₂, ◌∙◌}
use mathlib.Core.List.{List, [], ◌∷◌, ◌++◌}
use Rattle.meaning.specs.declared.Label.{Label}
use Rattle.meaning.specs.Printing.{digits, Decimal, RecordText, StepsText, one, more, LineText}

-- Where a number is written with as few digits as hold it, no other text that holds it has fewer.
places_le : (n : ℕ) (v w : List ℕ) (x : Decimal n v) (y : Decimal n w) → y.places ≤ x.places
places_le n v w x y = go (dec_le y.places x.places)
  where
    go : Dec (y.places ≤ x.places) → y.places ≤ x.places
    go (yes l) = l
    go (no l) =
        let more-than : x.places ≤ y.places - 1 = omega arith in
        let enough : 10 ^ x.places ≤ 10 ^ (y.places - 1) = pow-le-pow_right {n = 10} (omega arith) more-than in
        absurd (omega (arith, x.held, x.some, y.few (omega (arith, x.some))))

-- A number has one text.
pub decimal_fixed : (n : ℕ) (v w : List ℕ) → Decimal n v → Decimal n w → v ≡ w
decimal_fixed n v w x y = x.written ∙ ap (λ (k : ℕ). digits k n) (le_antisymm (places_le n w v y x) (places_le n v w x y)) ∙ sym y.written

-- A record has one text.
pub record_fixed : (l : Label) (v w : List ℕ) → RecordText l v → RecordText l w → v ≡ w
record_fixed l v w x y =
    x.written ∙
    ap₂ (λ (s e : List ℕ). s ++ 58 ∷ e) (decimal_fixed l.start x.start y.start x.start_is y.start_is) (decimal_fixed l.end x.end y.end x.end_is y.end_is) ∙
    sym y.written

-- A text of steps is of at least one.
pub steps_some : {label : ℕ → Label} {k : ℕ} {w : List ℕ} → StepsText label k w → 1 ≤ k
steps_some (one r) = omega arith
steps_some (more t r) = omega arith

-- The records of the first steps have one text.
pub steps_fixed : {label : ℕ → Label} {k : ℕ} {v w : List ℕ} → StepsText label k v → StepsText label k w → v ≡ w
steps_fixed {label} (one {w = v} x) (one {w = w} y) = record_fixed (label 0) v w x y
steps_fixed (one x) (more t y) = absurd (omega (arith, steps_some t))
steps_fixed (more t x) (one y) = absurd (omega (arith, steps_some t))
steps_fixed {label} (more {k} {w = v} s x) (more {w = w} t y) = ap₂ (λ (a b : List ℕ). a ++ 32 ∷ b) (steps_fixed s t) (record_fixed (label k) v w x y)

-- A line has one text.
pub line_fixed : (label : ℕ → Label) (k : ℕ) (v w : List ℕ) → LineText label k v → LineText label k w → v ≡ w
line_fixed label k v w x y = x.written ∙ ap (λ (t : List ℕ). t ++ 10 ∷ []) (steps_fixed x.records_are y.records_are) ∙ sym y.written
