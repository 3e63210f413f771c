-- Refusals 1 to 6 as tests that antt computes, and the number of the first that applies.
use Prim.Native.Nat.{ℕ, zero, suc, ◌+◌, ◌*◌}
use native.Mathlib.Omega.{arith}
use mathlib.Core.Path.{◌≡◌, refl, subst}
use mathlib.Core.Bool.{Bool, true, false, not}
use mathlib.Core.List.{List}
use lib.Dec.{ltb, eqb}
use lib.ListN.{length}
use Rattle.meaning.specs.Answers.{Decides, holds}
use Rattle.meaning.specs.Limits.{most_tags, most_labels}
use Rattle.meaning.specs.Bytes.{u16_at, u32_at}
use Rattle.meaning.specs.Names.{initial, further, all_further, short, is_name, same, Sooner}
use Rattle.meaning.specs.Day.{tags, version, row_at, name_field, offset, labels, total, body_at, lists_of, RowRight, TooShort, OtherVersion, WrongContents, WrongLength, WrongLists, WrongNesting}
use Rattle.meaning.specs.Refusals.{clear}
use Rattle.meaning.specs.Promises.{Checked}
use Rattle.meaning.proofs.Decide.{decides_as, not_decides, lt_decides, eq_decides, each, some, some_decides, both_decides, either_decides}
use Rattle.meaning.proofs.Decide.Among.{among, keep}
use Rattle.meaning.proofs.Laws.Table.{row_verdict}
use Rattle.meaning.proofs.Decide.Names.{fills_b, field_b, field_decides, sooner_at, sooner_b, sooner_decides}
use Rattle.meaning.proofs.Decide.Places.{entries_of, entries_to, table, pairs}
use Rattle.meaning.proofs.Decide.Nesting.{around, heads}
use Rattle.meaning.proofs.Decide.Lists.{unordered_b, unordered_decides, tangled_b, tangled_decides}

-- Row r comes after the row before, if there is one.
unfoldable pub order_b : List ℕ → ℕ → Bool
order_b b zero = true
order_b b (suc q) = sooner_b (name_field b q) (name_field b (suc q))

-- That test decides it.
order_decides : (b : List ℕ) (r : ℕ) → Decides ((q : ℕ) → suc q ≡ r → Sooner (name_field b q) (name_field b r)) (order_b b r)
unfolding order_b
order_decides b zero = holds (λ q e. absurd (omega arith))
order_decides b (suc p) = decides_as to (λ h. h p refl) (sooner_decides (name_field b p) (name_field b (suc p)))
  where
    to : Sooner (name_field b p) (name_field b (suc p)) → (q : ℕ) → suc q ≡ suc p → Sooner (name_field b q) (name_field b (suc p))
    to h q e = let f : p ≡ q = omega arith in subst (λ (k : ℕ). Sooner (name_field b k) (name_field b (suc p))) f h

-- Row r is right; its order waits for its name, and its offset for both.
unfoldable pub row_b : List ℕ → ℕ → Bool
row_b b r = elim (field_b (name_field b r)) [ true ↦ elim (order_b b r) [ true ↦ eqb (offset b r) (body_at b r) | false ↦ false ] | false ↦ false ]

-- That test decides it.
pub row_decides : (b : List ℕ) (r : ℕ) → Decides (RowRight b r) (row_b b r)
unfolding row_b
row_decides b r =
    decides_as (λ h. record { name = h.0.name; is_name = h.0.is_name; here = h.0.here; order = h.1.0; place = h.1.1 })
    (λ h. (record { name = h.name; is_name = h.is_name; here = h.here }, (h.order, h.place)))
    (both_decides (field_decides (name_field b r)) (both_decides (order_decides b r) (eq_decides (offset b r) (body_at b r))))

-- Refusal 1.
unfoldable pub short_b : List ℕ → Bool
short_b b = ltb (length b) 4

-- That test decides refusal 1.
pub short_decides : (b : List ℕ) → Decides (TooShort b) (short_b b)
unfolding short_b
short_decides b = lt_decides (length b) 4

-- Refusal 2.
unfoldable pub version_b : List ℕ → Bool
version_b b = not (eqb (version b) 1)

-- That test decides refusal 2.
pub version_decides : (b : List ℕ) → Decides (OtherVersion b) (version_b b)
unfolding version_b
version_decides b = not_decides (eq_decides (version b) 1)

-- Refusal 3: each of its parts waits for the one before.
unfoldable pub contents_b : List ℕ → Bool
contents_b b = elim (ltb most_tags (tags b)) [
  | true ↦ true
  | false ↦ elim (ltb (length b) (row_at (tags b))) [ true ↦ true | false ↦ elim (some (tags b) (λ r. not (row_b b r))) [ true ↦ true | false ↦ ltb most_labels (total b) ] ]
]

-- That test decides refusal 3.
pub contents_decides : (b : List ℕ) → Decides (WrongContents b) (contents_b b)
unfolding contents_b
contents_decides b =
    either_decides (lt_decides most_tags (tags b))
    (either_decides (lt_decides (length b) (row_at (tags b)))
    (either_decides (some_decides (tags b) (λ r l. not_decides (row_decides b r))) (lt_decides most_labels (total b))))

-- Refusal 4.
unfoldable pub length_b : List ℕ → Bool
length_b b = not (eqb (length b) (4 + 24 * tags b + 8 * total b))

-- That test decides refusal 4.
pub length_decides : (b : List ℕ) → Decides (WrongLength b) (length_b b)
unfolding length_b
length_decides b = not_decides (eq_decides (length b) (4 + 24 * tags b + 8 * total b))

-- Refusal 5.
unfoldable pub lists_b : List ℕ → Bool
lists_b b = unordered_b (table (lists_of b))

-- That test decides refusal 5.
pub lists_decides : (b : List ℕ) → Decides (WrongLists b) (lists_b b)
unfolding lists_b
lists_decides b = unordered_decides (lists_of b)

-- Refusal 6.
unfoldable pub nesting_b : List ℕ → Bool
nesting_b b = tangled_b (table (lists_of b))

-- That test decides refusal 6.
pub nesting_decides : (b : List ℕ) → Decides (WrongNesting b) (nesting_b b)
unfolding nesting_b
nesting_decides b = tangled_decides (lists_of b)

-- The number that the check call gives: that of the first reason of 1 to 6 that applies, or 0; each test waits for the one before.
-- Whoever unfolds it unfolds all that it computes with.
unfoldable pub check_of : List ℕ → ℕ
unfolding initial further all_further short is_name same u16_at u32_at labels each some among keep fills_b field_b sooner_at sooner_b entries_of entries_to pairs unordered_b around heads tangled_b order_b row_b short_b version_b contents_b length_b lists_b nesting_b
check_of b = elim (short_b b) [
  | true ↦ 1
  | false ↦ elim (version_b b) [
    | true ↦ 2
    | false ↦ elim (contents_b b) [
      | true ↦ 3
      | false ↦ elim (length_b b) [ true ↦ 4 | false ↦ elim (lists_b b) [ true ↦ 5 | false ↦ elim (nesting_b b) [ true ↦ 6 | false ↦ 0 ] ] ]
    ]
  ]
]

-- The computed number is the one that the check call promises.
pub check_agrees : (b : List ℕ) → Checked b (check_of b)
unfolding check_of
check_agrees b =
    row_verdict 1 (short_decides b)
    (row_verdict 2 (version_decides b)
    (row_verdict 3 (contents_decides b) (row_verdict 4 (length_decides b) (row_verdict 5 (lists_decides b) (row_verdict 6 (nesting_decides b) (clear tt))))))
