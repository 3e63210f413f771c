-- The promise of reading a path fixes the outcome: what is handed on by two readings that satisfy it is equal.
use Prim.Native.Nat.{ℕ}
use mathlib.Core.Path.{◌≡◌, refl, ap}
use mathlib.Core.List.{List}
use Rattle.std.specs.Prelude.{Option, Result, Ok}
use Rattle.draft.specs.declared.Broken.{Broken}
use Rattle.draft.specs.declared.Draft.{Draft}
use Rattle.path.specs.Reach.{PathRead, whole, torn}
use Rattle.path.proofs.Reaching.{one_path}

-- What reading a path hands on is one thing.
pub path_fixed : {t : List ℕ} {hang : Option ℕ} {d : ℕ} {q : Draft} {r s : Result Draft Broken} → PathRead t hang d q r → PathRead t hang d q s → r ≡ s
path_fixed {t} (whole y) (whole z) = ap Ok (one_path t y z)
path_fixed (whole y) (torn n) = absurd (n _ y)
path_fixed (torn n) (whole z) = absurd (n _ z)
path_fixed (torn n) (torn m) = refl
