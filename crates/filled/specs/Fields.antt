-- When a name stands in a field.
use Rattle.std.specs.Prelude.{ℕ, ◌≤◌, ◌<◌, ◌≡◌, List, length}
use Rattle.meaning.specs.Bytes.{at}
use Rattle.meaning.specs.Names.{Name, filled}

-- The bytes of a list from place n on are zero.
abbrev pub ZeroFrom : List ℕ → ℕ → Type 0
ZeroFrom s n = (i : ℕ) → n ≤ i → i < length s → at s i ≡ 0

-- A name, filled up with zero bytes, stands in the field.
pub record HasName (f : List ℕ) : Type 0 where
  pub name : List ℕ
  pub is_name : Name name
  pub here : f ≡ filled name
