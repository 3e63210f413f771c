-- The records of a call: there is one list of them, and on a fit day it can be computed.
use Prim.Native.Nat.{ℕ, zero, suc, ◌+◌, ◌-◌, ◌≤◌, ◌<◌}
use native.Mathlib.Nat.{eq-or-lt_of_le}
use native.Mathlib.Omega.{arith}
use mathlib.Core.Path.{◌≡◌, refl, sym, ap₂, subst}
use mathlib.Core.Logic.{inl, inr, ⊎_elim}
use mathlib.Core.Bool.{Bool, true, false}
use mathlib.Core.List.{List, [], ◌∷◌}
use lib.ListN.{length, get_or}
use Rattle.meaning.specs.Answers.{Decides, holds, fails}
use Rattle.meaning.specs.Picks.{Asked, Returned}
use Rattle.meaning.specs.Pages.{In, Ascending, Records}
use Rattle.meaning.specs.Fit.{Fit}
use Rattle.meaning.proofs.Decide.Picks.{returned_b, returned_decides}

-- Two lists that ascend and hold the same numbers are equal.
pub ascending_one : (xs ys : List ℕ) → Ascending xs → Ascending ys → ((i : ℕ) → In i xs → In i ys) → ((i : ℕ) → In i ys → In i xs) → xs ≡ ys
ascending_one [] [] a b f g = refl
ascending_one [] (y ∷ ys) a b f g = absurd (g y (inl refl))
ascending_one (x ∷ xs) [] a b f g = absurd (f x (inl refl))
ascending_one (x ∷ xs) (y ∷ ys) a b f g = ap₂ ◌∷◌ head (ascending_one xs ys a.1 b.1 (λ i h. rest i (a.0 i h) (f i (inr h))) (λ i h. rest' i (b.0 i h) (g i (inr h))))
  where
    head : x ≡ y
    head = ⊎_elim (λ e. e) (λ h. ⊎_elim (λ e. sym e) (λ k. omega (arith, a.0 y k, b.0 x h)) (g y (inl refl))) (f x (inl refl))

    rest : (i : ℕ) → x < i → In i (y ∷ ys) → In i ys
    rest i l (inl e) = absurd (omega (arith, head))
    rest i l (inr h) = h

    rest' : (i : ℕ) → y < i → In i (x ∷ xs) → In i xs
    rest' i l (inl e) = absurd (omega (arith, head))
    rest' i l (inr h) = h

-- A call has one list of records.
pub records_one : (a : Asked) (place : ℕ) (xs ys : List ℕ) → Records a place xs → Records a place ys → xs ≡ ys
records_one a place xs ys x y =
    ascending_one xs ys x.ascending y.ascending (λ i h. y.every i (x.each i h).0 (x.each i h).1) (λ i h. x.every i (y.each i h).0 (y.each i h).1)

-- The list holds what stands at a place of it.
pub holds_at : (xs : List ℕ) (k d : ℕ) → k < length xs → In (get_or xs k d) xs
holds_at [] k d l = absurd (omega arith)
holds_at (x ∷ xs) zero d l = inl refl
holds_at (x ∷ xs) (suc k) d l = inr (holds_at xs k d (omega arith))

-- An ascending list of numbers from `low` on, all below `high`, has at most as many as there are.
pub ascending_few : (xs : List ℕ) (low high : ℕ) → Ascending xs → ((i : ℕ) → In i xs → (low ≤ i) × (i < high)) → length xs ≤ high - low
ascending_few [] low high a h = omega arith
ascending_few (x ∷ xs) low high a h =
    let ih = ascending_few xs (suc x) high a.1 (λ i k. (a.0 i k, (h i (inr k)).1)) in
    omega (arith, ih, h x (inl refl))

-- The numbers from k on, n of them tried, that pass.
unfoldable pub filtered : (ℕ → Bool) → ℕ → ℕ → List ℕ
filtered f k zero = []
filtered f k (suc n) = elim (f k) [ true ↦ k ∷ filtered f (suc k) n | false ↦ filtered f (suc k) n ]

-- A list has just the numbers from k on, n of them, with a property, in order.
record Lists (P : ℕ → Type 0) (k n : ℕ) (xs : List ℕ) : Type 0 where
  ascending : Ascending xs
  each : (i : ℕ) → In i xs → P i × ((k ≤ i) × (i < k + n))
  every : (i : ℕ) → P i → k ≤ i → i < k + n → In i xs

filtered_lists : {P : ℕ → Type 0} {f : ℕ → Bool} → ((i : ℕ) → Decides (P i) (f i)) → (k n : ℕ) → Lists P k n (filtered f k n)
unfolding filtered
filtered_lists d k zero = record { ascending = tt; each = λ i h. absurd h; every = λ i p l m. absurd (omega arith) }
filtered_lists {P} {f} d k (suc n) = go (d k) (filtered_lists d (suc k) n)
  where
    go : {b : Bool} → Decides (P k) b → Lists P (suc k) n (filtered f (suc k) n) → Lists P k (suc n) (elim b [ true ↦ k ∷ filtered f (suc k) n | false ↦ filtered f (suc k) n ])
    go (holds p) x = record {
      ascending = (λ i h. (x.each i h).1.0, x.ascending);
      each = λ i h. ⊎_elim (λ e. (subst P (sym e) p, (omega arith, omega arith))) (λ m. ((x.each i m).0, (omega (arith, (x.each i m).1), omega (arith, (x.each i m).1)))) h;
      every = λ i q l m. ⊎_elim (λ e. inl (sym e)) (λ j. inr (x.every i q j (omega arith))) (eq-or-lt_of_le l);
    }
    go (fails p) x = record {
      ascending = x.ascending;
      each = λ i h. ((x.each i h).0, (omega (arith, (x.each i h).1), omega (arith, (x.each i h).1)));
      every = λ i q l m. ⊎_elim (λ e. absurd (p (subst P (sym e) q))) (λ j. x.every i q j (omega arith)) (eq-or-lt_of_le l);
    }

-- The returned records from a place on, by trying every position.
unfoldable pub records_of : Asked → ℕ → List ℕ
records_of a place = filtered (returned_b a) place (a.count a.returned - place)

-- They are the records of a call.
pub records_found : (a : Asked) → Fit a → (place : ℕ) → Records a place (records_of a place)
unfolding records_of
records_found a fit place =
    let x = filtered_lists (returned_decides a fit) place (a.count a.returned - place) in
    record {
      ascending = x.ascending;
      each = λ i h. ((x.each i h).0, (x.each i h).1.0);
      every = λ i r l. x.every i r l (below i r l);
    }
  where
    below : (i : ℕ) → Returned a i → place ≤ i → i < place + (a.count a.returned - place)
    below i (p, pick, e) l = omega (arith, e, pick.within a.returned fit.returned_lt)
