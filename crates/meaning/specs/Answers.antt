-- What a yes or no of the code says.
use Rattle.std.specs.Prelude.{Bool, true, false}

-- An answer decides P: where it is true P holds, and where it is false P does not.
pub data Decides (P : Type 0) : Bool → Type 0 where
  holds : P → Decides P true
  fails : (P → ⊥) → Decides P false
