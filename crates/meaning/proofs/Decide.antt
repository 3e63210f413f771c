-- Tests that antt computes, each with a proof that it decides what it is about.
pub mod Among
pub mod Places
pub mod Nesting
pub mod Lists
pub mod Names
pub mod Day
pub mod Notation
pub mod Unknown
pub mod Waits
pub mod Picks
use Prim.Native.Nat.{ℕ, zero, suc, ◌+◌, ◌≤◌, ◌<◌}
use native.Mathlib.Nat.{eq-or-lt_of_le, le_of_suc-le-suc}
use native.Mathlib.Omega.{arith}
use mathlib.Core.Path.{◌≡◌, refl, sym, subst}
use mathlib.Core.Logic.{◌⊎◌, inl, inr, ⊎_elim}
use mathlib.Core.Bool.{Bool, true, false, not, ◌&&◌, true≢false, false≢true}
use lib.Dec.{T, leb, ltb, eqb}
use Rattle.meaning.specs.Answers.{Decides, holds, fails}
use borrow.Author.Tests.{leb-true, leb-false, eqb-true, eqb-false}

-- What a passed test shows.
pub passed : {P : Type 0} {b : Bool} → Decides P b → T b → P
passed (holds p) t = p
passed (fails n) t = absurd t

-- What holds passes its test.
pub passes : {P : Type 0} {b : Bool} → Decides P b → P → T b
passes (holds p) h = tt
passes (fails n) h = n h

-- What an answer says, where it is known.
pub if_true : {P : Type 0} {b : Bool} → Decides P b → b ≡ true → P
if_true (holds p) e = p
if_true (fails n) e = absurd (false≢true e)

pub if_false : {P : Type 0} {b : Bool} → Decides P b → b ≡ false → P → ⊥
if_false (holds p) e = absurd (true≢false e)
if_false (fails n) e = n

-- The same where the code asks for the opposite.
pub if_not_false : {P : Type 0} {b : Bool} → Decides P b → not b ≡ false → P
if_not_false (holds p) e = p
if_not_false (fails n) e = absurd (true≢false e)

pub if_not_true : {P : Type 0} {b : Bool} → Decides P b → not b ≡ true → P → ⊥
if_not_true (holds p) e = absurd (false≢true e)
if_not_true (fails n) e = n

-- What is decided has one answer.
pub decides_one : {P : Type 0} {a b : Bool} → Decides P a → Decides P b → a ≡ b
decides_one (holds p) (holds q) = refl
decides_one (holds p) (fails n) = absurd (n p)
decides_one (fails n) (holds q) = absurd (n q)
decides_one (fails n) (fails m) = refl

-- What is decided holds or does not.
pub or_not : {P : Type 0} {b : Bool} → Decides P b → P ⊎ (P → ⊥)
or_not (holds p) = inl p
or_not (fails n) = inr n

-- A test decides whatever is equivalent to what it decides.
pub decides_as : {P Q : Type 0} {b : Bool} → (P → Q) → (Q → P) → Decides P b → Decides Q b
decides_as f g (holds p) = holds (f p)
decides_as f g (fails n) = fails (λ q. n (g q))

-- Tests of numbers.
pub le_decides : (m n : ℕ) → Decides (m ≤ n) (leb m n)
le_decides m n = go (leb m n) refl
  where
    go : (b : Bool) → leb m n ≡ b → Decides (m ≤ n) b
    go true e = holds (leb-true m n e)
    go false e = fails (λ h. omega (arith, leb-false m n e))

pub lt_decides : (m n : ℕ) → Decides (m < n) (ltb m n)
lt_decides m n = le_decides (suc m) n

pub eq_decides : (m n : ℕ) → Decides (m ≡ n) (eqb m n)
eq_decides m n = go (eqb m n) refl
  where
    go : (b : Bool) → eqb m n ≡ b → Decides (m ≡ n) b
    go true e = holds (eqb-true m n e)
    go false e = fails (eqb-false m n e)

-- Both.
pub and_decides : {P Q : Type 0} {a b : Bool} → Decides P a → Decides Q b → Decides (P × Q) (a && b)
and_decides (holds p) (holds q) = holds (p, q)
and_decides (holds p) (fails q) = fails (λ h. q h.1)
and_decides (fails p) (holds q) = fails (λ h. p h.0)
and_decides (fails p) (fails q) = fails (λ h. p h.0)

-- Not.
pub not_decides : {P : Type 0} {a : Bool} → Decides P a → Decides (P → ⊥) (not a)
not_decides (holds p) = fails (λ h. h p)
not_decides (fails n) = holds n

-- Both, where the second test waits for the first and may rest on it: `◌&&◌` computes both of its sides, and an `elim` waits with its cases.
pub after_decides : {P Q : Type 0} {a b : Bool} → Decides P a → (P → Decides Q b) → Decides (P × Q) (elim a [ true ↦ b | false ↦ false ])
after_decides (holds p) q = decides_as (λ h. (p, h)) (λ h. h.1) (q p)
after_decides (fails p) q = fails (λ h. p h.0)

-- Both, where the second test waits for the first.
pub both_decides : {P Q : Type 0} {a b : Bool} → Decides P a → Decides Q b → Decides (P × Q) (elim a [ true ↦ b | false ↦ false ])
both_decides d e = after_decides d (λ h. e)

-- Either, where the second test waits for the first.
pub either_decides : {P Q : Type 0} {a b : Bool} → Decides P a → Decides Q b → Decides (P ⊎ Q) (elim a [ true ↦ true | false ↦ b ])
either_decides (holds p) q = holds (inl p)
either_decides (fails p) (holds q) = holds (inr q)
either_decides (fails p) (fails q) = fails (⊎_elim p q)

-- A test decides whether it is true.
pub true_decides : (b : Bool) → Decides (b ≡ true) b
true_decides true = holds refl
true_decides false = fails false≢true

-- Two truth values are the same.
abbrev pub same_bool : Bool → Bool → Bool
same_bool true b = b
same_bool false b = not b

pub bool_decides : (a b : Bool) → Decides (a ≡ b) (same_bool a b)
bool_decides true true = holds refl
bool_decides true false = fails true≢false
bool_decides false true = fails false≢true
bool_decides false false = holds refl

-- Each number below n passes; the first that fails ends the computation.
unfoldable pub each : ℕ → (ℕ → Bool) → Bool
each zero f = true
each (suc n) f = elim (f n) [ true ↦ each n f | false ↦ false ]

pub each_decides : {P : ℕ → Type 0} {f : ℕ → Bool} (n : ℕ) → ((i : ℕ) → i < n → Decides (P i) (f i)) → Decides ((i : ℕ) → i < n → P i) (each n f)
unfolding each
each_decides zero d = holds (λ i l. absurd (omega arith))
each_decides {P} {f} (suc n) d = go (d n (omega arith)) (each_decides n (λ i l. d i (omega arith)))
  where
    go : {a b : Bool} → Decides (P n) a → Decides ((i : ℕ) → i < n → P i) b → Decides ((i : ℕ) → i < suc n → P i) (elim a [ true ↦ b | false ↦ false ])
    go (holds p) (holds q) = holds (λ i l. ⊎_elim (λ e. subst P (sym e) p) (q i) (eq-or-lt_of_le (le_of_suc-le-suc l)))
    go (holds p) (fails q) = fails (λ h. q (λ i l. h i (omega arith)))
    go (fails p) (holds q) = fails (λ h. p (h n (omega arith)))
    go (fails p) (fails q) = fails (λ h. p (h n (omega arith)))

-- Some number below n passes; the first that passes ends the computation.
unfoldable pub some : ℕ → (ℕ → Bool) → Bool
some zero f = false
some (suc n) f = elim (f n) [ true ↦ true | false ↦ some n f ]

pub some_decides : {P : ℕ → Type 0} {f : ℕ → Bool} (n : ℕ) → ((i : ℕ) → i < n → Decides (P i) (f i)) → Decides ((i : ℕ) × (i < n) × P i) (some n f)
unfolding some
some_decides zero d = fails (λ h. omega (arith, h.1))
some_decides {P} {f} (suc n) d = go (d n (omega arith)) (some_decides n (λ i l. d i (omega arith)))
  where
    go : {a b : Bool} → Decides (P n) a → Decides ((i : ℕ) × (i < n) × P i) b → Decides ((i : ℕ) × (i < suc n) × P i) (elim a [ true ↦ true | false ↦ b ])
    go (holds p) (holds q) = holds (n, omega arith, p)
    go (holds p) (fails q) = holds (n, omega arith, p)
    go (fails p) (holds q) = holds (q.0, omega (arith, q.1), q.2)
    go (fails p) (fails q) = fails (λ h. ⊎_elim (λ e. p (subst P e h.2)) (λ l. q (h.0, l, h.2)) (eq-or-lt_of_le (le_of_suc-le-suc h.1)))

-- The least number that has a property.
pub record Least (P : ℕ → Type 0) : Type 0 where
  pub it : ℕ
  pub has : P it
  pub least : (j : ℕ) → P j → it ≤ j

-- What no number below k has, only numbers from k on have.
pub at_least : {P : ℕ → Type 0} (k : ℕ) → ((j : ℕ) → j < k → P j → ⊥) → (j : ℕ) → P j → k ≤ j
at_least k none j p = ⊎_elim (λ l. l) (λ n. absurd (none j (omega arith) p)) (or_not (le_decides k j))

-- Where a property is decided and some number has it, there is a least that has it: the numbers below k were tried, `left` are left.
least_from : {P : ℕ → Type 0} {f : ℕ → Bool} → ((i : ℕ) → Decides (P i) (f i)) → (n : ℕ) → P n → (left k : ℕ) → n ≡ k + left → ((j : ℕ) → j < k → P j → ⊥) → Least P
least_from d n h zero k e none = record { it = n; has = h; least = at_least n (λ j l. none j (omega arith)) }
least_from {P} d n h (suc left) k e none =
    ⊎_elim (λ p. record { it = k; has = p; least = at_least k none })
    (λ p. least_from d n h left (suc k) (omega arith) (λ j l x. ⊎_elim (λ i. p (subst P i x)) (λ m. none j m x) (eq-or-lt_of_le (le_of_suc-le-suc l))))
    (or_not (d k))

pub least_of : {P : ℕ → Type 0} {f : ℕ → Bool} → ((i : ℕ) → Decides (P i) (f i)) → (n : ℕ) → P n → Least P
least_of d n h = least_from d n h n 0 (omega arith) (λ j l. absurd (omega arith))
