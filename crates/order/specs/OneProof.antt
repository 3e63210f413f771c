-- What stands in a walk's invariant has at most one proof.
use Rattle.std.specs.Prelude.{ℕ, List}
use Rattle.std.specs.Coded.{le_prop}
use Rattle.std.proofs.Math.Nat.{ℕ_set}
use Rattle.std.proofs.Common.{ap, inl, inr}
use native.Mathlib.Nat.{ne_of_lt}
use Rattle.contents.specs.OneProof.{placed_prop}
use Rattle.meaning.specs.Day.{lists_of}
use Rattle.meaning.specs.Labels.{Lists, Place}
use Rattle.order.specs.Walk.{Ascend, Precedes, Sorted}
use Rattle.order.specs.Keys.{Key, Keys}
use Rattle.order.specs.Standing.{cursor, AtLabel, Cursors, Standing}

-- The lists ascend.
ascend_prop : (t : Lists) → IsProp (Ascend t)
ascend_prop t p q = λ i. λ r j k l m n. le_prop (p r j k l m n) (q r j k l m n) i

-- A label of list r begins at a place.
at_prop : (b : List ℕ) (r place : ℕ) → IsProp (AtLabel b r place)
at_prop b r place p q = λ i. record { begins = ℕ_set _ _ p.begins q.begins i; within = le_prop p.within q.within i }

-- Every list's place is such a place.
cursors_prop : (b places : List ℕ) → IsProp (Cursors b places)
cursors_prop b places p q = λ i. record { long = ℕ_set _ _ p.long q.long i; each = λ r l. at_prop b r _ (p.each r l) (q.each r l) i }

-- One place comes before another by start or, where the starts are one, by list.
precedes_prop : (t : Lists) (x y : Place) → IsProp (Precedes t x y)
precedes_prop t x y (inl p) (inl q) = ap inl (le_prop p q)
precedes_prop t x y (inl p) (inr q) = absurd (ne_of_lt p q.0)
precedes_prop t x y (inr p) (inl q) = absurd (ne_of_lt q p.0)
precedes_prop t x y (inr p) (inr q) = λ i. inr (ℕ_set _ _ p.0 q.0 i, le_prop p.1 q.1 i)

-- What was handed out comes before what is left.
sorted_prop : (t : Lists) (pos : ℕ → ℕ) → IsProp (Sorted t pos)
sorted_prop t pos p q = λ i. λ x y s v. precedes_prop t x y (p x y s v) (q x y s v) i

-- A key is a list's.
key_prop : (t : Lists) (r p v : ℕ) → IsProp (Key t r p v)
key_prop t r n v p q = λ i. record {
  some = λ l. ℕ_set _ _ (p.some l) (q.some l) i;
  small = λ l. le_prop (p.small l) (q.small l) i;
  none = λ l. ℕ_set _ _ (p.none l) (q.none l) i;
}

-- The keys are the lists'.
keys_prop : (t : Lists) (pos : ℕ → ℕ) (xs : List ℕ) → IsProp (Keys t pos xs)
keys_prop t pos xs p q = λ i. record { many = ℕ_set _ _ p.many q.many i; key = λ r l. key_prop t r (pos r) _ (p.key r l) (q.key r l) i }

-- A walk stands at its cursors.
pub standing_prop : (b places keys : List ℕ) → IsProp (Standing b places keys)
standing_prop b places keys p q = λ i. record {
  placed = placed_prop b p.placed q.placed i;
  ascend = ascend_prop (lists_of b) p.ascend q.ascend i;
  cursors = cursors_prop b places p.cursors q.cursors i;
  sorted = sorted_prop (lists_of b) (cursor b places) p.sorted q.sorted i;
  keyed = keys_prop (lists_of b) (cursor b places) keys p.keyed q.keyed i;
}
