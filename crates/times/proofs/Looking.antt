-- Refusals 20 and 21 from what the looks find.
use Prim.Native.Nat.{ℕ, suc, ◌+◌, ◌≤◌, ◌<◌}
use native.Mathlib.Nat.{eq-or-lt_of_le}
use native.Mathlib.Omega.{arith}
use mathlib.Core.Path.{◌≡◌, refl, sym, ap, subst, ◌∙◌}
use Rattle.std.proofs.Common.{zero-add}
use Rattle.std.specs.Bool.{MatchBool}
use Rattle.std.specs.List.{range_with_len, AllWithin, HoldsAt}
use Rattle.std.proofs.lemmas.List.FromFn.{length-range_with_len, get_or-range_with_len}
use mathlib.Core.Logic.{inl, inr, ⊎_elim}
use mathlib.Core.Bool.{Bool, true, false, ◌||◌}
use lib.Dec.{ltb}
use mathlib.Core.List.{List}
use lib.ListN.{length}
use Rattle.meaning.specs.Bytes.{at}
use Rattle.meaning.specs.Day.{tags, row_list}
use Rattle.meaning.specs.Waits.{NoEntry, TimesDescend}
use Rattle.std.specs.Prelude.{Ok, Err}
use Rattle.meaning.specs.declared.refusal.Refusal.TheVariants as why
use Rattle.meaning.specs.Refusals.{Lawful, Judged, times_table}
use Rattle.meaning.specs.Answers.{Decides, holds, fails}
use Rattle.meaning.proofs.Decide.{decides_as, lt_decides}
use Rattle.meaning.proofs.Laws.Day.{lawful_index}
use Rattle.times.specs.Entries.{EndsPast}

-- A label that ends past the entries has a number without one.
pub missing_by : (b times : List ℕ) (r : ℕ) → r < tags b → EndsPast b (row_list b r) (length times) → NoEntry b times
missing_by b times r l (i, il, h) = (record { list = r; at = i }, record { list_lt = l; at_lt = il }, inr (omega (arith, h)))

-- Where no label of any list ends past them, each number has one: a label starts before it ends.
pub none_missing : (b times : List ℕ) → Lawful b → ((r : ℕ) → r < tags b → EndsPast b (row_list b r) (length times) → ⊥) → NoEntry b times → ⊥
none_missing b times law none (x, h, inr past) = none x.list h.list_lt (x.at, h.at_lt, past)
none_missing b times law none (x, h, inl past) = none x.list h.list_lt (x.at, h.at_lt, omega (arith, (lawful_index b law).ordered x h))

-- What `any` answers over the numbers below n.
pub any_below : (P : ℕ → Type 0) (n : ℕ) (r : Bool)
    → MatchBool r ((k : ℕ) × (k < length (range_with_len 0 n)) × HoldsAt P (range_with_len 0 n) k) (AllWithin (λ i. P i → ⊥) (range_with_len 0 n) 0 (length (range_with_len 0 n)))
    → Decides ((i : ℕ) × (i < n) × P i) r
any_below P n true (k, l, h) =
    let below : k < n = omega (arith, length-range_with_len 0 n) in
    holds (k, below, subst P (get_or-range_with_len 0 n k 0 below ∙ zero-add k) (h 0))
any_below P n false h =
    fails (λ (i, l, p). h i 0 (omega arith) (omega (arith, length-range_with_len 0 n)) (subst P (sym (get_or-range_with_len 0 n i 0 l ∙ zero-add i)) p))

-- So a look at each list decides whether an entry is missing.
pub missing_decides : (b times : List ℕ) {r : Bool} → Lawful b → Decides ((q : ℕ) × (q < tags b) × EndsPast b (row_list b q) (length times)) r → Decides (NoEntry b times) r
missing_decides b times law (holds (q, l, h)) = holds (missing_by b times q l h)
missing_decides b times law (fails none) = fails (none_missing b times law (λ q l h. none (q, l, h)))

-- What is given where an entry is missing, where none is and the times descend, and where neither is so.
module _ (b times : List ℕ) where
  pub refused_20 : NoEntry b times → Judged {A = Unit {0}} (times_table b times) (Err why.NoEntry)
  refused_20 h = inl (h, refl)

  module _ (timed : NoEntry b times → ⊥) where
    pub refused_21 : TimesDescend times → Judged {A = Unit {0}} (times_table b times) (Err why.TimesDescend)
    refused_21 h = inr (timed, inl (h, refl))

    pub timely : (done : Unit {0}) → (TimesDescend times → ⊥) → Judged {A = Unit {0}} (times_table b times) (Ok done)
    timely done h = (timed, (h, tt))

-- Of the first i entries one is smaller than the one before.
abbrev pub DescendTo : List ℕ → ℕ → Type 0
DescendTo times i = (k : ℕ) × (suc k < i) × (suc k < length times) × (at times (suc k) < at times k)

module _ (times : List ℕ) where
  -- Of no more than one entry none is.
  pub descend_begin : (i : ℕ) → i ≤ 1 → Decides (DescendTo times i) false
  descend_begin i l = fails (λ h. omega (arith, h.1))

  -- One entry more, which is smaller than the one before it.
  pub descend_here : (i j k : ℕ) → j + 1 ≡ i → at times i < at times j → i < length times → k ≡ i + 1 → Decides (DescendTo times k) true
  descend_here i j k e h l more = let up : i ≡ suc j = omega arith in holds (j, omega arith, omega arith, subst (λ (m : ℕ). at times m < at times j) up h)

  -- One entry more, which is not.
  pub descend_on : (i j k : ℕ) {d : Bool} → j + 1 ≡ i → at times j ≤ at times i → k ≡ i + 1 → Decides (DescendTo times i) d → Decides (DescendTo times k) d
  descend_on i j k e h more (holds (m, l, n, g)) = holds (m, omega arith, n, g)
  descend_on i j k e h more (fails before) =
      fails (λ (m, l, n, g). ⊎_elim (λ q. let p : m ≡ j = omega arith in omega (arith, ap (at times) q, ap (at times) p)) (λ q. before (m, q, n, g)) (eq-or-lt_of_le {n = suc m} {m = i} (omega arith)))

  -- One entry more, x, where y is the one before it.
  pub descend_turn : (i j k x y : ℕ) {d : Bool} → j + 1 ≡ i → x ≡ at times i → y ≡ at times j → i < length times → k ≡ i + 1 → Decides (DescendTo times i) d → Decides (DescendTo times k) (d || ltb x y)
  descend_turn i j k x y up here last l more before = go before (lt_decides x y)
    where
      go : {d b : Bool} → Decides (DescendTo times i) d → Decides (x < y) b → Decides (DescendTo times k) (d || b)
      go (holds (m, f, n, g)) q = holds (m, omega arith, n, g)
      go (fails none) (holds falls) = descend_here i j k up (omega arith) l more
      go (fails none) (fails not) = descend_on i j k up (omega arith) more (fails none)

  -- Of all entries.
  pub descend_end : (i : ℕ) {d : Bool} → length times ≤ i → Decides (DescendTo times i) d → Decides (TimesDescend times) d
  descend_end i l = decides_as (λ h. (h.0, h.2, h.3)) (λ h. (h.0, omega (arith, h.1), h.1, h.2))
