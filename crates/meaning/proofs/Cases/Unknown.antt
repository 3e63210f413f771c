-- Questions with names that no row has, each with the unknown step: in a bracket and outside, the first of several, and beside a row without
-- labels, whose name is known.
use mathlib.Core.Bool.{false}
use mathlib.Core.List.{List, [], ◌∷◌, ◌++◌}
use Prim.Native.Nat.{ℕ}
use Rattle.std.specs.Prelude.{Option, Some, None}
use Rattle.meaning.specs.Notation.{Path, path, After, finish, bracket, next}
use Rattle.meaning.proofs.Cases.{ample}
use Rattle.meaning.proofs.Cases.SmallDay.{bytes, label, row, head, small_day}
use Rattle.meaning.proofs.Cases.Stars.{call, board, lobby}
use Rattle.meaning.proofs.Cases.Call.{Call, accepts, CallsRight, call_b, calls_right}

abbrev cancle : After → Path
cancle = path (bytes "cancle")

abbrev door : After → Path
door = path (bytes "door")

-- A day with a call, and with a row for doors that has no labels.
abbrev no_doors : List ℕ
no_doors = head 2 ++ row "call" 52 1 ++ row "door" 60 0 ++ label 1 2

-- A question that gives no records: its unknown step, and how many labels the returned step's list has.
abbrev gives_none : List ℕ → List ℕ → Path → Option ℕ → ℕ → Call
gives_none index text tree unknown after =
    accepts (record { index = index; text = text; tree = tree; place = 0; room = ample; positions = []; rows = []; more = false; next = after; unknown = unknown })

unfoldable pub misspelled : List Call
unfolding small_day bytes
misspelled =
    gives_none small_day (bytes "//cancle") (cancle finish) (Some 0) 0
    ∷
    gives_none small_day (bytes "//call[//cancle]") (call (bracket (cancle finish) finish)) (Some 1) 5
    ∷
    gives_none small_day (bytes "//call[//board[//cancle]]//lobby") (call (bracket (board (bracket (cancle finish) finish)) (next (lobby finish)))) (Some 2) 0
    ∷
    gives_none small_day (bytes "//lobby[//cancle]//call") (lobby (bracket (cancle finish) (next (call finish)))) (Some 0) 5
    ∷
    gives_none small_day (bytes "//call//call//cancle") (call (next (call (next (cancle finish))))) (Some 2) 0
    ∷
    gives_none no_doors (bytes "//door") (door finish) None 0
    ∷
    gives_none no_doors (bytes "//call[//door][//lobby]") (call (bracket (door finish) (bracket (lobby finish) finish))) (Some 2) 1
    ∷
    []

-- Each of them is right.
pub misspelled_right : CallsRight misspelled
unfolding misspelled call_b
misspelled_right = calls_right misspelled (tt, (tt, (tt, (tt, (tt, (tt, (tt, tt)))))))
