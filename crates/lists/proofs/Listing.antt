-- Refusal 5: one list looked at label by label, and what no wrong list leaves.
use Prim.Native.Nat.{ℕ, zero, suc, ◌+◌, ◌≤◌, ◌<◌}
use native.Mathlib.Nat.{eq-or-lt_of_le}
use native.Mathlib.Omega.{arith}
use borrow.Author.Count.{below_more}
use mathlib.Core.Path.{◌≡◌, refl, sym, ap, subst}
use mathlib.Core.Logic.{inl, inr, ⊎_elim}
use Rattle.meaning.specs.declared.Label.{Label}
use Rattle.meaning.specs.Labels.{Lists, Unordered}
use Rattle.meaning.proofs.Decide.{or_not, lt_decides}
use Rattle.meaning.proofs.Laws.Label.{no_later}
use Rattle.lists.specs.Ordering.{Disordered, ListWrong, Ordered, backward, descent}

-- The first i of n labels are right, and the next has to start at `low` or later.
pub record Listing (n : ℕ) (label : ℕ → Label) (i low : ℕ) : Type 0 where
  pub ordered : (k : ℕ) → k < i → (label k).start < (label k).end
  pub ascending : (j k : ℕ) → j < k → k < i → (label j).start < (label k).start
  pub first : i ≡ 0 → low ≡ 0
  pub after : (k : ℕ) → i ≡ suc k → low ≡ (label k).start + 1

module _ (n : ℕ) (label : ℕ → Label) where
  -- Nothing is looked at yet.
  pub listing_begin : Listing n label 0 0
  listing_begin = record { ordered = λ k l. absurd (omega arith); ascending = λ j k l m. absurd (omega arith); first = λ _. refl; after = λ k e. absurd (omega arith) }

  module _ (i low : ℕ) (w : Listing n label i low) where
    -- A label that starts below `low` starts no later than the one before it.
    pub listing_descent : i < n → (label i).start < low → Disordered n label
    listing_descent l h = go i refl
      where
        go : (m : ℕ) → i ≡ m → Disordered n label
        go zero e = absurd (omega (arith, w.first e))
        go (suc k) e = descent k i (omega arith) l (omega (arith, w.after k e))

    -- A label that is ordered and starts at `low` or later is right after those before it.
    pub listing_on : (label i).start < (label i).end → low ≤ (label i).start → Listing n label (i + 1) ((label i).start + 1)
    listing_on o h = record {
      ordered = below_more _ i w.ordered o;
      ascending = λ j k jk ki. ⊎_elim (λ e. up j k jk e) (λ m. w.ascending j k jk m) (eq-or-lt_of_le {n = k} {m = i} (omega arith));
      first = λ e. absurd (omega arith);
      after = λ k e. let f : i ≡ k = omega arith in ap (λ (m : ℕ). (label m).start + 1) f;
    }
      where
        -- Each of the first i labels starts before label i.
        last : (j k : ℕ) → i ≡ suc k → j ≤ k → (label j).start < (label i).start
        last j k e jk = omega (arith, w.after k e, no_later label i w.ascending j k jk (omega arith))

        up : (j k : ℕ) → j < k → k ≡ i → (label j).start < (label k).start
        up j zero jk e = absurd (omega arith)
        up j (suc k) jk e = subst (λ (m : ℕ). (label j).start < (label m).start) (sym e) (last j k (sym e) (omega arith))

    -- When every label is looked at, none is wrong.
    pub listing_end : n ≤ i → Disordered n label → ⊥
    listing_end h (backward k l d) = omega (arith, w.ordered k (omega arith))
    listing_end h (descent j k jk l d) = omega (arith, w.ascending j k jk (omega arith))

-- A wrong list is one of refusal 5.
pub unordered_by : (t : Lists) (r : ℕ) → r < t.many → ListWrong t r → Unordered t
unordered_by t r l (backward i il h) = inl (record { place = record { list = r; at = i }; holds = record { list_lt = l; at_lt = il }; wrong = h })
unordered_by t r l (descent i j ij jl h) = inr (record { list = r; i = i; j = j; list_lt = l; i_lt = ij; j_lt = jl; wrong = h })

-- Where no list is wrong there is nothing of refusal 5.
pub none_unordered : (t : Lists) → ((r : ℕ) → r < t.many → ListWrong t r → ⊥) → Unordered t → ⊥
none_unordered t n (inl w) = n w.place.list w.holds.list_lt (backward w.place.at w.holds.at_lt w.wrong)
none_unordered t n (inr w) = n w.list w.list_lt (descent w.i w.j w.i_lt w.j_lt w.wrong)

-- Where there is nothing of refusal 5, every list is right by itself.
pub ordered_of : (t : Lists) → (Unordered t → ⊥) → Ordered t
ordered_of t n r l = record {
  ordered = λ i il. ⊎_elim (λ h. h) (λ d. absurd (n (unordered_by t r l (backward i il (omega arith))))) (or_not (lt_decides (t.label r i).start (t.label r i).end));
  ascending = λ i j ij jl. ⊎_elim (λ h. h) (λ d. absurd (n (unordered_by t r l (descent i j ij jl (omega arith))))) (or_not (lt_decides (t.label r i).start (t.label r j).start));
}
