-- A name's list lies within a lawful index.
use Prim.Native.Nat.{ℕ}
use native.Mathlib.Omega.{arith}
use mathlib.Core.Path.{◌≡◌, sym, subst, ◌∙◌}
use mathlib.Core.List.{List}
use Rattle.std.specs.Prelude.{Option, Some, None}
use Rattle.meaning.specs.declared.Body.{Body}
use Rattle.meaning.specs.Day.{Finds, list_of}
use Rattle.meaning.specs.Refusals.{Lawful}
use Rattle.meaning.proofs.Laws.Found.{list_in, list_found}
use Rattle.contents.specs.Parts.{InIndex}
use Rattle.contents.proofs.Placing.{lawful_placed}

-- The list of a name in a lawful index lies within it.
pub list_within : (b n : List ℕ) → Lawful b → InIndex b (list_of b n)
list_within b n law = go (list_found b n)
  where
    go : (f : Option Body) × Finds b n f × (list_of b n ≡ list_in f) → InIndex b (list_of b n)
    go (Some l, (r, has, e), q) = subst (InIndex b) (sym (q ∙ e)) ((lawful_placed b law).held r has.0)
    go (None, no_row, q) = subst (InIndex b) (sym q) (omega arith)
