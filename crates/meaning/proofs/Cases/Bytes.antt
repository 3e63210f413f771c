-- Numbers in bytes, little endian, with another byte at each place: 1 × 256 + 2, and 1 × 16,777,216 + 2 × 65,536 + 3 × 256 + 4.
use mathlib.Core.Path.{◌≡◌, refl}
use mathlib.Core.List.{[], ◌∷◌}
use Rattle.meaning.specs.Bytes.{u16_at, u32_at}

-- The two bytes 2 1 are 258, wherever they stand.
pub two_bytes : u16_at (9 ∷ 2 ∷ 1 ∷ 8 ∷ []) 1 ≡ 258
unfolding u16_at
two_bytes = refl

-- The four bytes 4 3 2 1 are 16,909,060.
pub four_bytes : u32_at (9 ∷ 4 ∷ 3 ∷ 2 ∷ 1 ∷ 8 ∷ []) 1 ≡ 16_909_060
unfolding u32_at
four_bytes = refl
