-- What the first n add up to: it is one number, it is bounded, its parts add up to it, and what one more makes of it; and the longest.
use Prim.Native.Nat.{ℕ, zero, suc, ◌+◌, ◌*◌, ◌≤◌, ◌<◌, max}
use native.Mathlib.Nat.{eq-or-lt_of_le, le_of_suc-le-suc, suc-mul, zero-mul}
use native.Mathlib.Omega.{arith}
use mathlib.Core.Path.{◌≡◌, refl, sym, subst, subst₂, ◌∙◌}
use mathlib.Core.Logic.{◌⊎◌, inl, inr, ⊎_elim}
use Rattle.meaning.specs.Waits.{Sum, none, with, without, Number, Longest, that_of, nobody}
use Rattle.meaning.proofs.Decide.{or_not, le_decides}

-- Each adds one number at most.
abbrev pub OneEach : (ℕ → ℕ → Type 0) → Type 0
OneEach Adds = (i d e : ℕ) → Adds i d → Adds i e → d ≡ e

-- What counts the such adds 1 each.
pub ones : (Such : ℕ → Type 0) → OneEach (λ i d. Such i × (d ≡ 1))
ones Such i d e x y = x.1 ∙ sym y.1

module _ {Adds : ℕ → ℕ → Type 0} (one : OneEach Adds) where
  -- The sum is one.
  pub sum_one : {n s t : ℕ} → Sum Adds n s → Sum Adds n t → s ≡ t
  sum_one none none = refl
  sum_one (with {n = n} x p) (with y q) = omega (arith, sum_one x y, one n _ _ p q)
  sum_one (with x p) (without y q) = absurd (q _ p)
  sum_one (without x p) (with y q) = absurd (p _ q)
  sum_one (without x p) (without y q) = sum_one x y

  -- What one of them adds is at most the sum.
  pub one_of_sum : {n s : ℕ} → Sum Adds n s → (i d : ℕ) → i < n → Adds i d → d ≤ s
  one_of_sum none i d l h = absurd (omega arith)
  one_of_sum (with {n = n} x p) i d l h =
      ⊎_elim (λ e. omega (arith, one n d _ (subst (λ (k : ℕ). Adds k d) e h) p)) (λ k. omega (arith, one_of_sum x i d k h)) (eq-or-lt_of_le (le_of_suc-le-suc l))
  one_of_sum (without {n = n} x p) i d l h = ⊎_elim (λ e. absurd (p d (subst (λ (k : ℕ). Adds k d) e h))) (λ k. one_of_sum x i d k h) (eq-or-lt_of_le (le_of_suc-le-suc l))

  -- So the longest is at most the sum.
  pub longest_of_sum : {n s l : ℕ} → Sum Adds n s → Longest Adds n l → l ≤ s
  longest_of_sum x (that_of {i = i} {d = d} l h most) = one_of_sum x i d l h
  longest_of_sum x (nobody absent) = omega arith

-- Where none adds more than m, the sum is at most n times m.
pub sum_bound : {Adds : ℕ → ℕ → Type 0} (m : ℕ) → ((i d : ℕ) → Adds i d → d ≤ m) → {n s : ℕ} → Sum Adds n s → s ≤ n * m
sum_bound m small none = omega (arith, zero-mul m)
sum_bound m small (with {n = n} x p) = omega (arith, suc-mul n m, sum_bound m small x, small n _ p)
sum_bound m small (without {n = n} x p) = omega (arith, suc-mul n m, sum_bound m small x)

-- No more are such than there are.
pub number_within : {Such : ℕ → Type 0} {n s : ℕ} → Number Such n s → s ≤ n
number_within x = omega (arith, sum_bound 1 (λ i d h. omega (arith, h.1)) x)

-- Where each of the one adds to the whole, and each of the other, and no others do, and none is both, the two sums add up to the whole.
module _ {A B C : ℕ → ℕ → Type 0} (one : OneEach C) (apart : (i d e : ℕ) → A i d → B i e → ⊥) (left : (i d : ℕ) → A i d → C i d) (right : (i d : ℕ) → B i d → C i d)
    (neither : (i : ℕ) → ((d : ℕ) → A i d → ⊥) → ((d : ℕ) → B i d → ⊥) → (d : ℕ) → C i d → ⊥) where
  pub sum_parts : {n a b c : ℕ} → Sum A n a → Sum B n b → Sum C n c → a + b ≡ c
  sum_parts none none none = refl
  sum_parts (with {n = n} x p) (with y q) z = absurd (apart n _ _ p q)
  sum_parts (with {n = n} x p) (without y q) (with z r) = omega (arith, sum_parts x y z, one n _ _ (left n _ p) r)
  sum_parts (with {n = n} x p) (without y q) (without z r) = absurd (r _ (left n _ p))
  sum_parts (without {n = n} x p) (with y q) (with z r) = omega (arith, sum_parts x y z, one n _ _ (right n _ q) r)
  sum_parts (without {n = n} x p) (with y q) (without z r) = absurd (r _ (right n _ q))
  sum_parts (without {n = n} x p) (without y q) (with z r) = absurd (neither n p q _ r)
  sum_parts (without x p) (without y q) (without z r) = sum_parts x y z

-- All of n are n.
pub number_all : (n : ℕ) → Number (λ i. Unit) n n
number_all zero = none
number_all (suc n) = subst (Number (λ i. Unit) (suc n)) (omega arith) (with (number_all n) (tt, refl))

-- The longest is one.
pub longest_one : {Has : ℕ → ℕ → Type 0} {n l m : ℕ} → Longest Has n l → Longest Has n m → l ≡ m
longest_one (that_of {i = i} {d = d} l h most) (that_of {i = k} {d = e} m g more) = omega (arith, more i d l h, most k e m g)
longest_one (that_of {i = i} {d = d} l h most) (nobody absent) = absurd (absent i d l h)
longest_one (nobody absent) (that_of {i = k} {d = e} m g more) = absurd (absent k e m g)
longest_one (nobody absent) (nobody also) = refl

-- The longer of two is one of them.
max_is : (m n : ℕ) → (max m n ≡ m) ⊎ (max m n ≡ n)
max_is m n = ⊎_elim (λ l. inr (omega arith)) (λ l. inl (omega arith)) (or_not (le_decides m n))

-- Of the first n and one more.
module _ {Adds : ℕ → ℕ → Type 0} {n : ℕ} (k : ℕ) (more : k ≡ n + 1) where
  -- What adds nothing leaves the sum,
  pub sum_kept : {s t : ℕ} → t ≡ s → ((d : ℕ) → Adds n d → ⊥) → Sum Adds n s → Sum Adds k t
  sum_kept {s} {t} e adds-not x = let up : suc n ≡ k = omega arith in subst₂ (Sum Adds) up (sym e) (without x adds-not)

  -- what adds d makes it so much more,
  pub sum_more : {s t : ℕ} (d : ℕ) → t ≡ s + d → Adds n d → Sum Adds n s → Sum Adds k t
  sum_more {s} {t} d e h x = let up : suc n ≡ k = omega arith in subst₂ (Sum Adds) up (sym e) (with x h)

  -- what has nothing leaves the longest,
  pub longest_kept : {l m : ℕ} → m ≡ l → ((d : ℕ) → Adds n d → ⊥) → Longest Adds n l → Longest Adds k m
  longest_kept {l} {m} e has-not x = subst (Longest Adds k) (sym e) (go x)
    where
      up : {P : ℕ → ℕ → Type 0} → ((i d : ℕ) → i < n → Adds i d → P i d) → (i d : ℕ) → i < k → Adds i d → P i d
      up low i d j h = ⊎_elim (λ q. absurd (has-not d (subst (λ (z : ℕ). Adds z d) q h))) (λ q. low i d q h) (eq-or-lt_of_le {n = i} {m = n} (omega arith))

      go : {l : ℕ} → Longest Adds n l → Longest Adds k l
      go (that_of {i = i} {d = d} j h most) = that_of {i = i} (omega arith) h (up most)
      go (nobody absent) = nobody (up absent)

  -- and what has d makes it the longer of the two.
  pub longest_more : {l m : ℕ} (d : ℕ) → m ≡ max l d → OneEach Adds → Adds n d → Longest Adds n l → Longest Adds k m
  longest_more {l} {m} d longer one h x =
      ⊎_elim (λ e. old (longer ∙ e) x) (λ e. that_of {i = n} (omega arith) (subst (Adds n) (sym (longer ∙ e)) h) most) (max_is l d)
    where
      low : {l : ℕ} → l ≤ m → Longest Adds n l → (i e : ℕ) → i < n → Adds i e → e ≤ m
      low lm (that_of j g all) i e q f = omega (arith, all i e q f)
      low lm (nobody absent) i e q f = absurd (absent i e q f)

      most : (i e : ℕ) → i < k → Adds i e → e ≤ m
      most i e j g = ⊎_elim (λ q. omega (arith, one n e d (subst (λ (z : ℕ). Adds z e) q g) h)) (λ q. low (omega arith) x i e q g) (eq-or-lt_of_le {n = i} {m = n} (omega arith))

      old : {l : ℕ} → m ≡ l → Longest Adds n l → Longest Adds k m
      old e (that_of {i = i} j g all) = that_of {i = i} (omega arith) (subst (Adds i) (sym e) g) most
      old e (nobody absent) = let q : d ≡ m = omega arith in that_of {i = n} (omega arith) (subst (Adds n) q h) most
