-- The small day of document 01 as bytes, and the words that the table of marked cases is written in.
use Prim.Native.Nat.{ℕ, ◌/◌, ◌%◌}
use Prim.Native.Char.{code}
use Prim.Native.String.{String, [], ◌∷◌}
use mathlib.Core.List.{List, ◌++◌}
use Rattle.meaning.specs.Names.{filled}

-- The bytes of a text.
unfoldable pub bytes : String → List ℕ
bytes [] = List.[]
bytes (c ∷ s) = List.◌∷◌ (code c) (bytes s)

-- The bytes that these four are, as a list.
abbrev pub four : ℕ → ℕ → ℕ → ℕ → List ℕ
four a b c d = List.◌∷◌ a (List.◌∷◌ b (List.◌∷◌ c (List.◌∷◌ d List.[])))

-- A 32-bit number, little endian.
abbrev pub word : ℕ → List ℕ
word n = four (n % 256) (n / 256 % 256) (n / 65_536 % 256) (n / 16_777_216 % 256)

-- A label: its start, then its end.
abbrev pub label : ℕ → ℕ → List ℕ
label start end = word start ++ word end

-- A row of the table of contents: the name, the body's offset, the number of labels.
abbrev pub row : String → ℕ → ℕ → List ℕ
row name offset count = filled (bytes name) ++ word offset ++ word count

-- The first four bytes: the number of tags (below 256 here), and version 1.
abbrev pub head : ℕ → List ℕ
head tags = four tags 0 1 0

-- `board` 8:9, 22:23. `call` 1:20, 4:15, 7:12, 21:26, 27:28. `cancel` 2:3, 5:6. Offsets 76, 92, 132.
unfoldable pub small_day : List ℕ
small_day =
    head 3 ++ row "board" 76 2 ++ row "call" 92 5 ++ row "cancel" 132 2 ++ label 8 9 ++ label 22 23 ++ label 1 20 ++ label 4 15 ++ label 7 12 ++ label 21 26 ++ label 27 28 ++ label 2 3 ++ label 5 6
