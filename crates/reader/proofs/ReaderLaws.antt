-- What a reader hands out, by cases: a label stands below the number of whole labels, and at the end there is none.
use Prim.Native.Nat.{ℕ, ◌≤◌, ◌<◌}
use native.Mathlib.Nat.{lt_of_not-le}
use native.Mathlib.Decide.{dec_le}
use borrow.Author.Tests.{lt-ltb, le-ltb}
use mathlib.Core.Path.{◌≡◌, refl, sym, subst}
use mathlib.Core.Bool.{Bool, cond}
use mathlib.Core.List.{List}
use Rattle.std.specs.Prelude.{Option, Some, None}
use Rattle.meaning.specs.declared.Label.{Label}
use Rattle.meaning.specs.Day.{label_at}
use Rattle.reader.specs.Reading.{labels, next_at}

-- What is known of a body and a place when this comes next there.
abbrev pub Says : List ℕ → ℕ → Option Label → Type 0
Says b at (Some label) = (at < labels b) × (label ≡ label_at b 0 at)
Says b at None = labels b ≤ at

-- What comes next says so.
pub next_says : (b : List ℕ) (at : ℕ) → Says b at (next_at b at)
next_says b at = go (dec_le (labels b) at)
  where
    go : Dec (labels b ≤ at) → Says b at (next_at b at)
    go (yes l) = subst (λ (t : Bool). Says b at (cond t (Some (label_at b 0 at)) None)) (sym (le-ltb _ _ l)) l
    go (no h) = subst (λ (t : Bool). Says b at (cond t (Some (label_at b 0 at)) None)) (sym (lt-ltb _ _ (lt_of_not-le h))) (lt_of_not-le h, refl)
