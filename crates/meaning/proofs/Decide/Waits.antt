-- What becomes of a call, and the refusals of a list of times, by tests that try all records, all labels and all entries.
use Prim.Native.Nat.{ℕ, suc, ◌≤◌}
use native.Mathlib.Omega.{arith}
use mathlib.Core.Bool.{Bool, true, false, ◌&&◌}
use mathlib.Core.List.{List}
use lib.Dec.{leb, ltb, eqb}
use lib.ListN.{length}
use Rattle.meaning.specs.Answers.{Decides, holds, fails}
use Rattle.meaning.specs.Bytes.{at}
use Rattle.meaning.specs.Labels.{Inside}
use Rattle.meaning.specs.Day.{tags, count, lists_of}
use Rattle.meaning.specs.Waits.{Ending, board, cancel, Traffic, Within, Ends, Open, NoEntry, TimesDescend}
use Rattle.meaning.specs.Refusals.{Verdict, clear, waits_table}
use Rattle.meaning.proofs.Decide.{decides_as, le_decides, lt_decides, eq_decides, and_decides, either_decides, each, each_decides, some, some_decides}
use Rattle.meaning.proofs.Decide.Nesting.{inside_b, inside_decides}
use Rattle.meaning.proofs.Decide.Day.{check_of, check_agrees}
use Rattle.meaning.proofs.Laws.Table.{check_rising, row_verdict, verdict_after}

-- Where the one holds the other does.
where_decides : {P Q : Type 0} {a b : Bool} → Decides P a → Decides Q b → Decides (P → Q) (elim a [ true ↦ b | false ↦ true ])
where_decides (holds p) (holds q) = holds (λ _. q)
where_decides (holds p) (fails q) = fails (λ h. q (h p))
where_decides (fails p) q = holds (λ h. absurd (p h))

module _ (w : Traffic) (i : ℕ) where
  -- Each record of an ending that lies inside the call passes.
  unfoldable pub inside_each : (Ending → ℕ → Bool) → Ending → Bool
  inside_each f e = each (w.ended e).count (λ j. elim (inside_b ((w.ended e).label j) (w.calls.label i)) [ true ↦ f e j | false ↦ true ])

  inside_each_decides : {P : Ending → ℕ → Type 0} {f : Ending → ℕ → Bool} → ((e : Ending) (j : ℕ) → Decides (P e j) (f e j)) → (e : Ending) → Decides ((j : ℕ) → Within w i e j → P e j) (inside_each f e)
  unfolding inside_each
  inside_each_decides {P} d e =
      decides_as (λ h j x. h j x.is x.inside) (λ h j l x. h j (record { is = l; inside = x }))
      (each_decides {P = λ j. Inside ((w.ended e).label j) (w.calls.label i) → P e j} (w.ended e).count (λ j l. where_decides (inside_decides ((w.ended e).label j) (w.calls.label i)) (d e j)))

  -- Of both endings.
  unfoldable pub inside_all : (Ending → ℕ → Bool) → Bool
  inside_all f = inside_each f board && inside_each f cancel

  inside_all_decides : {P : Ending → ℕ → Type 0} {f : Ending → ℕ → Bool} → ((e : Ending) (j : ℕ) → Decides (P e j) (f e j)) → Decides ((e : Ending) (j : ℕ) → Within w i e j → P e j) (inside_all f)
  unfolding inside_all
  inside_all_decides {P} d = decides_as (λ h. by h) (λ h. (h board, h cancel)) (and_decides (inside_each_decides d board) (inside_each_decides d cancel))
    where
      by : ((j : ℕ) → Within w i board j → P board j) × ((j : ℕ) → Within w i cancel j → P cancel j) → (e : Ending) (j : ℕ) → Within w i e j → P e j
      by h board = h.0
      by h cancel = h.1

  -- Record j of an ending ends the wait of the call.
  unfoldable pub ends_b : Ending → ℕ → Bool
  ends_b e j =
      (ltb j (w.ended e).count && inside_b ((w.ended e).label j) (w.calls.label i)) && inside_all (λ f k. leb ((w.ended e).label j).start ((w.ended f).label k).start)

  pub ends_decides : (e : Ending) (j : ℕ) → Decides (Ends w i e j) (ends_b e j)
  unfolding ends_b
  ends_decides e j =
      decides_as (λ h. record { within = record { is = h.0.0; inside = h.0.1 }; first = λ f k x. omega (arith, h.1 f k x) }) (λ h. ((h.within.is, h.within.inside), λ f k x. omega (arith, h.first f k x)))
      (and_decides (and_decides (lt_decides j (w.ended e).count) (inside_decides ((w.ended e).label j) (w.calls.label i)))
      (inside_all_decides {P = λ f k. ((w.ended e).label j).start ≤ ((w.ended f).label k).start} (λ f k. le_decides ((w.ended e).label j).start ((w.ended f).label k).start)))

  -- The call is open.
  unfoldable pub open_b : Bool
  open_b = inside_all (λ f k. false)

  pub open_decides : Decides (Open w i) open_b
  unfolding open_b
  open_decides = inside_all_decides {P = λ f k. ⊥} (λ f k. fails (λ h. h))

-- Refusal 20.
unfoldable pub no_entry_b : List ℕ → List ℕ → Bool
no_entry_b b times = some (tags b) (λ r. some (count b r) (λ j. elim (leb (length times) ((lists_of b).label r j).start) [ true ↦ true | false ↦ leb (length times) ((lists_of b).label r j).end ]))

no_entry_decides : (b times : List ℕ) → Decides (NoEntry b times) (no_entry_b b times)
unfolding no_entry_b
no_entry_decides b times =
    decides_as (λ h. (record { list = h.0; at = h.2.0 }, record { list_lt = h.1; at_lt = h.2.1 }, h.2.2)) (λ h. (h.0.list, h.1.list_lt, (h.0.at, h.1.at_lt, h.2)))
    (some_decides (tags b) (λ r l. some_decides (count b r) (λ j k. either_decides (le_decides (length times) ((lists_of b).label r j).start) (le_decides (length times) ((lists_of b).label r j).end))))

-- Refusal 21.
unfoldable pub descend_b : List ℕ → Bool
descend_b times = some (length times) (λ k. ltb (suc k) (length times) && ltb (at times (suc k)) (at times k))

descend_decides : (times : List ℕ) → Decides (TimesDescend times) (descend_b times)
unfolding descend_b
descend_decides times =
    decides_as (λ h. (h.0, omega (arith, h.2.0), omega (arith, h.2.1))) (λ h. (h.0, omega (arith, h.1), (omega (arith, h.1), omega (arith, h.2))))
    (some_decides (length times) (λ k l. and_decides (lt_decides (suc k) (length times)) (lt_decides (at times (suc k)) (at times k))))

-- The number that the waits call gives.
unfoldable pub waits_of : List ℕ → List ℕ → ℕ
waits_of b times = elim (eqb (check_of b) 0) [ true ↦ elim (no_entry_b b times) [ true ↦ 20 | false ↦ elim (descend_b times) [ true ↦ 21 | false ↦ 0 ] ] | false ↦ check_of b ]

-- It is the one that its table gives.
pub waits_agrees : (b times : List ℕ) → Verdict (waits_table b times) (waits_of b times)
unfolding waits_of
waits_agrees b times = verdict_after (check_rising b) (check_agrees b) (eq_decides (check_of b) 0) (row_verdict 20 (no_entry_decides b times) (row_verdict 21 (descend_decides times) (clear tt)))
