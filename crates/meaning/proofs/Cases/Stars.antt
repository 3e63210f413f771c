-- The marked cases (★) of document 01's table, in one table, and one statement that covers them all.
use Prim.Native.Nat.{ℕ}
use mathlib.Core.Bool.{Bool, true, false}
use mathlib.Core.List.{List, [], ◌∷◌, ◌++◌}
use Rattle.std.specs.Prelude.{Option, Some, None}
use Rattle.meaning.specs.Notation.{Path, path, After, finish, bracket, next}
use Rattle.meaning.proofs.Cases.SmallDay.{bytes, label, row, head, small_day}
use Rattle.meaning.proofs.Cases.{Room, ample, just, Case, ask, check, empty, All}
use Rattle.meaning.proofs.Cases.Test.{right_b, all_right}

-- The steps of the questions' trees, each before what follows its name.
abbrev pub call : After → Path
call = path (bytes "call")

abbrev pub board : After → Path
board = path (bytes "board")

abbrev pub cancel : After → Path
cancel = path (bytes "cancel")

abbrev pub lobby : After → Path
lobby = path (bytes "lobby")

-- A question put to the small day at a place with a room, and its outcome: positions, evidence rows, more, next place, unknown step.
abbrev asks : List ℕ → Path → ℕ → Room → List ℕ → List (List ℕ) → Bool → ℕ → Option ℕ → Case
asks text tree place room positions rows more after unknown =
    ask (record { index = small_day; text = text; tree = tree; place = place; room = room; positions = positions; rows = rows; more = more; next = after; unknown = unknown })

-- The cases in the table's order. Where the table says neither place nor room, the place is 0 and the room ample; where it says neither more
-- nor next place, none remains and the next place is the number of labels in the returned step's list. No row has the name `lobby`; the other
-- names have rows.
unfoldable pub stars : List Case
unfolding small_day bytes
stars =
    asks (bytes "//call[//cancel]//board") (call (bracket (cancel finish) (next (board finish)))) 0 ample (0 ∷ []) ((0 ∷ 0 ∷ 0 ∷ []) ∷ []) false 2 None
    ∷
    asks (bytes "//call[//board]") (call (bracket (board finish) finish)) 0 ample (0 ∷ 1 ∷ 2 ∷ 3 ∷ []) ((0 ∷ 0 ∷ []) ∷ (1 ∷ 0 ∷ []) ∷ (2 ∷ 0 ∷ []) ∷ (3 ∷ 1 ∷ []) ∷ []) false 5 None
    ∷
    asks (bytes "//call[//cancel]") (call (bracket (cancel finish) finish)) 0 ample (0 ∷ 1 ∷ []) ((0 ∷ 0 ∷ []) ∷ (1 ∷ 1 ∷ []) ∷ []) false 5 None
    ∷
    asks (bytes "//call//call//call") (call (next (call (next (call finish))))) 0 ample (2 ∷ []) ((0 ∷ 1 ∷ 2 ∷ []) ∷ []) false 5 None
    ∷
    asks (bytes "//call//cancel//board") (call (next (cancel (next (board finish))))) 0 ample [] [] false 2 None
    ∷
    asks (bytes "//call[//cancel][//cancel]") (call (bracket (cancel finish) (bracket (cancel finish) finish))) 0 ample (0 ∷ 1 ∷ []) ((0 ∷ 0 ∷ 0 ∷ []) ∷ (1 ∷ 1 ∷ 1 ∷ []) ∷ []) false 5 None
    ∷
    asks (bytes "//call[//call[//cancel]]//board") (call (bracket (call (bracket (cancel finish) finish)) (next (board finish)))) 0 ample (0 ∷ []) ((0 ∷ 1 ∷ 1 ∷ 0 ∷ []) ∷ []) false 2 None
    ∷
    asks (bytes "//lobby") (lobby finish) 0 ample [] [] false 0 (Some 0)
    ∷
    asks (bytes "//call[//board]") (call (bracket (board finish) finish)) 2 (just 1) (2 ∷ []) ((2 ∷ 0 ∷ []) ∷ []) true 3 None
    ∷
    asks (bytes "//call[//board]") (call (bracket (board finish) finish)) 3 (just 0) [] [] true 3 None
    ∷
    empty (0 ∷ 0 ∷ 1 ∷ 0 ∷ [])
    ∷
    check (head 1 ++ row "call" 28 1 ++ label 4 4) 5
    ∷
    check (head 1 ++ row "call" 28 2 ++ label 1 5 ++ label 3 8) 6
    ∷
    check (head 1 ++ row "call" 28 2 ++ label 1 5 ++ label 5 8) 6
    ∷
    []

-- Every marked case is right: the outcomes that the table says satisfy the promises of the check, the answer and the evidence call.
pub stars_right : All stars
unfolding stars right_b
stars_right = all_right stars (tt, (tt, (tt, (tt, (tt, (tt, (tt, (tt, (tt, (tt, (tt, (tt, (tt, (tt, tt))))))))))))))
