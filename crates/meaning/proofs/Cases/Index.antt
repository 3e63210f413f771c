-- The rows of document 01's table about an index that are not marked, and its words on lawful numbers: they hold the definitions of the
-- day to the paper as the marked ones do.
use Prim.Native.Nat.{ℕ, zero, suc, ◌+◌, ◌-◌}
use mathlib.Core.List.{List, [], ◌∷◌, ◌++◌}
use Rattle.meaning.specs.Names.{filled}
use Rattle.meaning.proofs.Cases.{Case, check, All}
use Rattle.meaning.proofs.Cases.SmallDay.{bytes, word, label, row, head}
use Rattle.meaning.proofs.Cases.Test.{right_b, all_right}

-- n labels from start s on, of which each but the first lies inside the one before, the first of them s:e.
unfoldable pub nest : ℕ → ℕ → ℕ → List ℕ
nest zero s e = []
nest (suc n) s e = label s e ++ nest n (s + 1) (e - 1)

-- The bytes 0 0 2 0, the bytes 1 0 1 0, 3 bytes; 64 nested and 65 nested; the numbers 0 and 4,294,967,295; a list without labels.
-- Then the versions 256 and 257; 256 tags in 4 bytes; a byte more than the length; an offset of 65,536 too many; labels over 2^24, in bytes:
-- 65,536:16,777,216 and the same numbers the other way round; 1,048,576 labels, which the length does not have, and one more; a row cut
-- short behind its offset; rows that ascend, are equal and descend.
unfoldable pub others : List Case
unfolding bytes nest
others =
    check (0 ∷ 0 ∷ 2 ∷ 0 ∷ []) 2
    ∷
    check (1 ∷ 0 ∷ 1 ∷ 0 ∷ []) 3
    ∷
    check (0 ∷ 0 ∷ 1 ∷ []) 1
    ∷
    check (head 1 ++ row "call" 28 64 ++ nest 64 1 200) 0
    ∷
    check (head 1 ++ row "call" 28 65 ++ nest 65 1 200) 6
    ∷
    check (head 1 ++ row "call" 28 1 ++ label 0 4_294_967_295) 0
    ∷
    check (head 1 ++ row "call" 28 0) 0
    ∷
    check (0 ∷ 0 ∷ 0 ∷ 1 ∷ []) 2
    ∷
    check (0 ∷ 0 ∷ 1 ∷ 1 ∷ []) 2
    ∷
    check (0 ∷ 1 ∷ 1 ∷ 0 ∷ []) 3
    ∷
    check (0 ∷ 0 ∷ 1 ∷ 0 ∷ 0 ∷ []) 4
    ∷
    check (head 1 ++ row "call" 65_564 0) 3
    ∷
    check (head 1 ++ row "call" 28 1 ++ 0 ∷ 0 ∷ 1 ∷ 0 ∷ 0 ∷ 0 ∷ 0 ∷ 1 ∷ []) 0
    ∷
    check (head 1 ++ row "call" 28 1 ++ 0 ∷ 0 ∷ 0 ∷ 1 ∷ 0 ∷ 0 ∷ 1 ∷ 0 ∷ []) 5
    ∷
    check (head 1 ++ row "call" 28 1_048_576) 4
    ∷
    check (head 1 ++ row "call" 28 1_048_577) 3
    ∷
    check (head 1 ++ filled (bytes "call") ++ word 28) 3
    ∷
    check (head 2 ++ row "board" 52 0 ++ row "call" 52 0) 0
    ∷
    check (head 2 ++ row "call" 52 0 ++ row "call" 52 0) 3
    ∷
    check (head 2 ++ row "call" 52 0 ++ row "board" 52 0) 3
    ∷
    []

-- Each of them is right.
pub others_right : All others
unfolding others right_b
others_right = all_right others (tt, (tt, (tt, (tt, (tt, (tt, (tt, (tt, (tt, (tt, (tt, (tt, (tt, (tt, (tt, (tt, (tt, (tt, (tt, (tt, tt))))))))))))))))))))
