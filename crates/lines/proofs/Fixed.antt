-- What writing a line gives is fixed: two lines that satisfy its promise are equal.
use Prim.Native.Nat.{ℕ}
use mathlib.Core.Path.{◌≡◌}
use mathlib.Core.List.{List}
use Rattle.meaning.specs.declared.Label.{Label}
use Rattle.meaning.proofs.Laws.Printing.{line_fixed}
use Rattle.lines.specs.Adding.{Written}

pub written_fixed : (label : ℕ → Label) (k : ℕ) (x y : List ℕ) → Written label k x → Written label k y → x ≡ y
written_fixed label k x y v w = line_fixed label k x y v.text w.text
