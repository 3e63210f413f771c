-- Refusals by both calls for rows, questions on both sides of each limit, and pages in buffers that no number of rows fills. Document 01 has the
-- numbers; the texts are written out here, and not by what writes a tree.
use Prim.Native.Nat.{ℕ, zero, suc}
use mathlib.Core.Bool.{Bool, true, false}
use mathlib.Core.List.{List, [], ◌∷◌, ◌++◌}
use lib.ListN.{replicate}
use Rattle.std.specs.Prelude.{Some, None}
use Rattle.meaning.specs.declared.refusal.Refusal.TheVariants.{TooShort, OtherVersion, TooLong, NotFollowing, TooLarge}
use Rattle.meaning.specs.Notation.{Path, path, finish, bracket, next}
use Rattle.meaning.proofs.Cases.{Room, ample, just, Asking}
use Rattle.meaning.proofs.Cases.SmallDay.{bytes, small_day}
use Rattle.meaning.proofs.Cases.Call.{unlawful, long, blank, large, Call, accepts, answers, shows, refuses, CallsRight, call_b, calls_right}

-- The lawful index without records.
abbrev empty : List ℕ
empty = 0 ∷ 0 ∷ 1 ∷ 0 ∷ []

-- A text n times.
unfoldable pub times : ℕ → List ℕ → List ℕ
times zero w = []
times (suc n) w = w ++ times n w

-- n steps of one name before a path.
unfoldable pub before : ℕ → List ℕ → Path → Path
before zero n p = p
before (suc k) n p = path n (next (before k n p))

-- A step a with brackets n deep, a step a in each.
unfoldable pub deep : ℕ → Path
deep zero = path (97 ∷ []) finish
deep (suc n) = path (97 ∷ []) (bracket (deep n) finish)

-- Its text.
abbrev deep_text : ℕ → List ℕ
deep_text n = times n (bytes "//a[") ++ bytes "//a" ++ times n (bytes "]")

-- A question put to the empty index, which gives nothing and has no row for its first step.
abbrev nothing_found : List ℕ → Path → Asking
nothing_found text tree = record { index = empty; text = text; tree = tree; place = 0; room = ample; positions = []; rows = []; more = false; next = 0; unknown = Some 0 }

-- `//call[//board]` put to the small day, of whose records 0, 1, 2 and 3 there is room for so many.
abbrev calls : Room → List ℕ → List (List ℕ) → Bool → ℕ → Asking
calls room positions rows more after =
    record { index = small_day; text = bytes "//call[//board]"; tree = path (bytes "call") (bracket (path (bytes "board") finish) finish); place = 0; room = room; positions = positions; rows = rows; more = more; next = after; unknown = None }

-- An index's number comes before a question's; a text without a byte; 1,025 bytes, and 1,024 bytes of 57 steps; 32 steps and 33; 8 deep and
-- 9. A buffer of 5 numbers has room for 5 positions or for 2 rows of 2 numbers, and one of 1 number for no such row.
unfoldable pub written_out : List Call
unfolding bytes small_day times before deep
written_out =
    refuses (0 ∷ 0 ∷ 1 ∷ []) (bytes "//call") unlawful TooShort 1
    ∷
    refuses (0 ∷ 0 ∷ 2 ∷ 0 ∷ []) [] unlawful OtherVersion 2
    ∷
    refuses empty [] blank NotFollowing 8
    ∷
    refuses empty (times 56 (bytes "//aaaaaaaaaaaaaaaa") ++ bytes "//aaaaaaaaaaaaaaa") long TooLong 7
    ∷
    refuses empty (times 56 (bytes "//aaaaaaaaaaaaaaaa") ++ bytes "//aaaaaaaaaaaaaa") (large (before 56 (replicate 16 97) (path (replicate 14 97) finish))) TooLarge 9
    ∷
    accepts (nothing_found (times 32 (bytes "//a")) (before 31 (bytes "a") (path (bytes "a") finish)))
    ∷
    refuses empty (times 33 (bytes "//a")) (large (before 32 (bytes "a") (path (bytes "a") finish))) TooLarge 9
    ∷
    accepts (nothing_found (deep_text 8) (deep 8))
    ∷
    refuses empty (deep_text 9) (large (deep 9)) TooLarge 9
    ∷
    answers (calls (just 5) (0 ∷ 1 ∷ 2 ∷ 3 ∷ []) ((0 ∷ 0 ∷ []) ∷ (1 ∷ 0 ∷ []) ∷ (2 ∷ 0 ∷ []) ∷ (3 ∷ 1 ∷ []) ∷ []) false 5) (9 ∷ 9 ∷ 9 ∷ 9 ∷ 9 ∷ []) (0 ∷ 1 ∷ 2 ∷ 3 ∷ 9 ∷ [])
    ∷
    shows (calls (just 2) (0 ∷ 1 ∷ []) ((0 ∷ 0 ∷ []) ∷ (1 ∷ 0 ∷ []) ∷ []) true 2) (9 ∷ 9 ∷ 9 ∷ 9 ∷ 9 ∷ []) (0 ∷ 0 ∷ 1 ∷ 0 ∷ 9 ∷ [])
    ∷
    shows (calls (just 0) [] [] true 0) (9 ∷ []) (9 ∷ [])
    ∷
    []

-- Each of them is right.
pub written_out_right : CallsRight written_out
unfolding written_out call_b
written_out_right = calls_right written_out (tt, (tt, (tt, (tt, (tt, (tt, (tt, (tt, (tt, (tt, (tt, (tt, tt))))))))))))
