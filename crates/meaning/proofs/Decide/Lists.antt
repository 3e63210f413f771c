-- Refusals 5 and 6 of the lists of a day as tests that antt computes.
use Prim.Native.Nat.{ℕ, ◌≤◌, ◌<◌}
use native.Mathlib.Omega.{arith}
use mathlib.Core.Path.{◌≡◌, refl, ap, subst}
use mathlib.Core.Logic.{◌⊎◌, ◌≢◌}
use mathlib.Core.Bool.{Bool, true, false, not}
use mathlib.Core.List.{List}
use lib.Dec.{leb, ltb, eqb}
use Rattle.meaning.specs.Answers.{Decides}
use Rattle.meaning.specs.declared.Label.{Label}
use Rattle.meaning.specs.Limits.{most_nested}
use Rattle.meaning.specs.Labels.{Lists, Place, Backward, Descent, Unordered, Share, Cross, Clash, Tangled}
use Rattle.meaning.proofs.Decide.{decides_as, not_decides, le_decides, lt_decides, eq_decides, both_decides, either_decides}
use Rattle.meaning.proofs.Decide.Among.{among, member_b}
use Rattle.meaning.proofs.Decide.Places.{Entry, place_in, label_in, table, At, at_decides, pairs, pairs_decides}
use Rattle.meaning.proofs.Decide.Nesting.{heads, nested_decides}

-- Refusal 5, its first part, of one entry: start ≥ end.
abbrev pub backward_b : Entry → Bool
backward_b x = leb (label_in x).end (label_in x).start

-- A search of the table for such an entry decides it.
backward_decides : (t : Lists) → Decides (Backward t) (among backward_b (table t))
backward_decides t = decides_as to from (at_decides t {P = λ x. (label_in x).end ≤ (label_in x).start} (λ x. le_decides (label_in x).end (label_in x).start))
  where
    to : At t (λ x. (label_in x).end ≤ (label_in x).start) → Backward t
    to h = record { place = h.place; holds = h.holds; wrong = h.has }

    from : Backward t → At t (λ x. (label_in x).end ≤ (label_in x).start)
    from h = record { place = h.place; holds = h.holds; has = h.wrong }

-- Refusal 5, its second part, of two entries: both are of one list, and the second is behind the first and has no greater start.
abbrev Descends : Entry → Entry → Type 0
Descends x y = ((place_in x).list ≡ (place_in y).list) × (((place_in x).at < (place_in y).at) × ((label_in y).start ≤ (label_in x).start))

-- The test of two entries.
abbrev pub descent_b : Entry → Entry → Bool
descent_b x y = elim (eqb (place_in x).list (place_in y).list) [ true ↦ elim (ltb (place_in x).at (place_in y).at) [ true ↦ leb (label_in y).start (label_in x).start | false ↦ false ] | false ↦ false ]

-- That test decides it.
descends_decides : (x y : Entry) → Decides (Descends x y) (descent_b x y)
descends_decides x y = both_decides (eq_decides (place_in x).list (place_in y).list) (both_decides (lt_decides (place_in x).at (place_in y).at) (le_decides (label_in y).start (label_in x).start))

-- A search of all pairs for such entries decides the second part.
descent_decides : (t : Lists) → Decides (Descent t) (pairs descent_b (table t))
descent_decides t = decides_as to from (pairs_decides t descends_decides)
  where
    to : At t (λ x. At t (Descends x)) → Descent t
    to h =
        let x = h.place in
        let y = h.has.place in
        record {
          list = y.list;
          i = x.at;
          j = y.at;
          list_lt = h.has.holds.list_lt;
          i_lt = h.has.has.1.0;
          j_lt = h.has.holds.at_lt;
          wrong = subst (λ (r : ℕ). (t.label y.list y.at).start ≤ (t.label r x.at).start) h.has.has.0 h.has.has.1.1;
        }

    from : Descent t → At t (λ x. At t (Descends x))
    from h = record {
      place = record { list = h.list; at = h.i };
      holds = record { list_lt = h.list_lt; at_lt = omega (arith, h.i_lt, h.j_lt) };
      has = record {
        place = record { list = h.list; at = h.j };
        holds = record { list_lt = h.list_lt; at_lt = h.j_lt };
        has = (refl, (h.i_lt, h.wrong));
      };
    }

-- Refusal 5, of the table.
unfoldable pub unordered_b : List Entry → Bool
unordered_b es = elim (among backward_b es) [ true ↦ true | false ↦ pairs descent_b es ]

-- That test decides refusal 5.
pub unordered_decides : (t : Lists) → Decides (Unordered t) (unordered_b (table t))
unfolding unordered_b
unordered_decides t = either_decides (backward_decides t) (descent_decides t)

-- Two places are one: their lists are, and their positions are.
abbrev pub place_b : Place → Place → Bool
place_b x y = elim (eqb x.list y.list) [ true ↦ eqb x.at y.at | false ↦ false ]

-- That test decides it.
place_decides : (x y : Place) → Decides (x ≡ y) (place_b x y)
place_decides x y = decides_as to from (both_decides (eq_decides x.list y.list) (eq_decides x.at y.at))
  where
    to : (x.list ≡ y.list) × (x.at ≡ y.at) → x ≡ y
    to h = λ k. record { list = h.0 k; at = h.1 k }

    from : x ≡ y → (x.list ≡ y.list) × (x.at ≡ y.at)
    from e = (ap (λ (z : Place). z.list) e, ap (λ (z : Place). z.at) e)

-- Two labels share a number.
abbrev pub share_b : Label → Label → Bool
share_b a b = elim (eqb a.start b.start) [
  | true ↦ true
  | false ↦ elim (eqb a.start b.end) [ true ↦ true | false ↦ elim (eqb a.end b.start) [ true ↦ true | false ↦ eqb a.end b.end ] ]
]

-- That test decides it.
share_decides : (a b : Label) → Decides (Share a b) (share_b a b)
share_decides a b = either_decides (eq_decides a.start b.start) (either_decides (eq_decides a.start b.end) (either_decides (eq_decides a.end b.start) (eq_decides a.end b.end)))

-- Two labels cross.
abbrev pub cross_b : Label → Label → Bool
cross_b a b = elim (ltb a.start b.start) [ true ↦ elim (ltb b.start a.end) [ true ↦ ltb a.end b.end | false ↦ false ] | false ↦ false ]

-- That test decides it.
cross_decides : (a b : Label) → Decides (Cross a b) (cross_b a b)
cross_decides a b =
    decides_as (λ h. record { first = h.0; within = h.1.0; past = h.1.1 }) (λ h. (h.first, (h.within, h.past)))
    (both_decides (lt_decides a.start b.start) (both_decides (lt_decides b.start a.end) (lt_decides a.end b.end)))

-- Two labels share a number or cross.
abbrev pub wrong_b : Label → Label → Bool
wrong_b a b = elim (share_b a b) [ true ↦ true | false ↦ cross_b a b ]

-- Refusal 6, its first part, of two entries: they share a number or cross, and their places are two.
abbrev Clashes : Entry → Entry → Type 0
Clashes x y = (Share (label_in x) (label_in y) ⊎ Cross (label_in x) (label_in y)) × (place_in x ≢ place_in y)

-- The test of two entries; the places wait for the labels, of which few share a number or cross.
abbrev pub clash_b : Entry → Entry → Bool
clash_b x y = elim (wrong_b (label_in x) (label_in y)) [ true ↦ not (place_b (place_in x) (place_in y)) | false ↦ false ]

-- That test decides it.
clashes_decides : (x y : Entry) → Decides (Clashes x y) (clash_b x y)
clashes_decides x y = both_decides (either_decides (share_decides (label_in x) (label_in y)) (cross_decides (label_in x) (label_in y))) (not_decides (place_decides (place_in x) (place_in y)))

-- A search of all pairs for such entries decides the first part.
clash_decides : (t : Lists) → Decides (Clash t) (pairs clash_b (table t))
clash_decides t = decides_as to from (pairs_decides t clashes_decides)
  where
    to : At t (λ x. At t (Clashes x)) → Clash t
    to h = record { one = h.place; other = h.has.place; holds_one = h.holds; holds_other = h.has.holds; two = h.has.has.1; wrong = h.has.has.0 }

    from : Clash t → At t (λ x. At t (Clashes x))
    from h = record { place = h.one; holds = h.holds_one; has = record { place = h.other; holds = h.holds_other; has = (h.wrong, h.two) } }

-- Refusal 6, of the table.
unfoldable pub tangled_b : List Entry → Bool
tangled_b es = elim (pairs clash_b es) [ true ↦ true | false ↦ member_b (heads es most_nested) ]

-- That test decides refusal 6.
pub tangled_decides : (t : Lists) → Decides (Tangled t) (tangled_b (table t))
unfolding tangled_b
tangled_decides t = either_decides (clash_decides t) (nested_decides t most_nested)
