-- Names: of the tags in a day index, and of the steps in a question.
use Rattle.std.specs.Prelude.{ℕ, ◌-◌, ◌<◌, ◌≡◌, Bool, true, false, ◌||◌, ◌&&◌, List, [], ◌∷◌, ◌++◌, leb, eqb, length, get_or, replicate}
use Rattle.meaning.specs.Limits.{most_name}

-- A name's first character: an ASCII letter (A is 65, a is 97) or `_` (95).
unfoldable pub initial : ℕ → Bool
initial c = (leb 65 c && leb c 90) || ((leb 97 c && leb c 122) || eqb c 95)

-- Its other characters: ASCII letters, digits (0 is 48), `_`, `-` (45) or `.` (46).
unfoldable pub further : ℕ → Bool
further c = initial c || ((leb 48 c && leb c 57) || (eqb c 45 || eqb c 46))

-- Each character may stand behind the first.
unfoldable pub all_further : List ℕ → Bool
all_further [] = true
all_further (c ∷ cs) = further c && all_further cs

-- It has at most 16 characters.
unfoldable pub short : List ℕ → Bool
short n = leb (length n) most_name

-- A name has 1 to 16 characters, of which the first and the others are as above.
unfoldable pub is_name : List ℕ → Bool
is_name [] = false
is_name (c ∷ cs) = initial c && (all_further cs && short (c ∷ cs))

-- The list is a name.
abbrev pub Name : List ℕ → Type 0
Name n = is_name n ≡ true

-- A name filled up with zero bytes to 16.
abbrev pub filled : List ℕ → List ℕ
filled n = n ++ replicate (most_name - length n) 0

-- x comes before y, bytes compared as unsigned: at the first place where they differ, x has the lesser byte.
pub record Sooner (x y : List ℕ) : Type 0 where
  pub place : ℕ
  pub same : (i : ℕ) → i < place → get_or x i 0 ≡ get_or y i 0
  pub less : get_or x place 0 < get_or y place 0

-- The two lists have the same bytes.
unfoldable pub same : List ℕ → List ℕ → Bool
same [] [] = true
same [] (y ∷ ys) = false
same (x ∷ xs) [] = false
same (x ∷ xs) (y ∷ ys) = eqb x y && same xs ys
