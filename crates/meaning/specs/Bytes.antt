-- Numbers in a list of bytes, little endian.
use Rattle.std.specs.Prelude.{ℕ, ◌+◌, ◌*◌, List, get_or}

-- The number at a place of a list; 0 past the end, where no promise looks.
abbrev pub at : List ℕ → ℕ → ℕ
at b place = get_or b place 0

-- The 16-bit number whose two bytes begin at a place.
unfoldable pub u16_at : List ℕ → ℕ → ℕ
u16_at b place = at b place + 256 * at b (place + 1)

-- The 32-bit number whose four bytes begin at a place.
unfoldable pub u32_at : List ℕ → ℕ → ℕ
u32_at b place = at b place + 256 * at b (place + 1) + 65_536 * at b (place + 2) + 16_777_216 * at b (place + 3)
