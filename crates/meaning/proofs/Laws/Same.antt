-- The test `same` of two lists of bytes says whether they are equal.
use Prim.Native.Nat.{ℕ}
use native.Mathlib.Omega.{arith}
use mathlib.Core.Path.{◌≡◌, refl}
use mathlib.Core.Bool.{Bool, true, false}
use mathlib.Core.List.{List, [], ◌∷◌}
use lib.Dec.{T}
use Rattle.meaning.specs.Answers.{Decides, holds, fails}
use Rattle.meaning.specs.Names.{same}
use Rattle.meaning.proofs.Decide.{decides_as, and_decides, eq_decides, passed, passes}

-- The empty list is no list that has a first byte.
empty_not : (x : ℕ) (xs : List ℕ) → [] ≡ x ∷ xs → ⊥
empty_not x xs e = let z : ◌≡◌ {A = ℕ} 0 1 = cc in omega arith

-- Two lists are equal if their first bytes are and what is behind these is.
join : (x y : ℕ) (xs ys : List ℕ) → (x ≡ y) × (xs ≡ ys) → x ∷ xs ≡ y ∷ ys
join x y xs ys h = cc (h.0, h.1)

-- If two lists are equal, their first bytes are and what is behind these is.
split : (x y : ℕ) (xs ys : List ℕ) → x ∷ xs ≡ y ∷ ys → (x ≡ y) × (xs ≡ ys)
split x y xs ys e = (cc, cc)

-- The test decides whether the lists are equal.
pub same_decides : (xs ys : List ℕ) → Decides (xs ≡ ys) (same xs ys)
unfolding same
same_decides [] [] = holds refl
same_decides [] (y ∷ ys) = fails (empty_not y ys)
same_decides (x ∷ xs) [] = fails (λ e. empty_not x xs (cc))
same_decides (x ∷ xs) (y ∷ ys) = decides_as (join x y xs ys) (split x y xs ys) (and_decides (eq_decides x y) (same_decides xs ys))

-- A test that passes is true.
is_true : (b : Bool) → T b → b ≡ true
is_true true t = refl
is_true false t = absurd t

-- Lists that pass the test are equal.
pub same_sound : (xs ys : List ℕ) → same xs ys ≡ true → xs ≡ ys
same_sound xs ys e = passed (same_decides xs ys) (rw e tt)

-- A list is the same as itself.
pub same_complete : (xs : List ℕ) → same xs xs ≡ true
same_complete xs = is_true (same xs xs) (passes (same_decides xs xs) refl)
