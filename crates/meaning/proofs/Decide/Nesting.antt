-- Whether so many labels lie each inside the one before, as a test that antt computes. It keeps the labels with which n of them begin,
-- and finds among these the labels with which n + 1 begin: so it takes time by the number of labels and not by that of sequences.
use Prim.Native.Nat.{ℕ, zero, suc, ◌<◌}
use native.Mathlib.Omega.{arith}
use mathlib.Core.Path.{◌≡◌, refl, sym, subst}
use mathlib.Core.Bool.{Bool, true, false}
use mathlib.Core.List.{List}
use lib.Dec.{ltb}
use Rattle.meaning.specs.Answers.{Decides}
use Rattle.meaning.specs.declared.Label.{Label}
use Rattle.meaning.specs.Labels.{Inside, Lists, Place, label_of, Holds, Nested}
use Rattle.meaning.proofs.Decide.{decides_as, lt_decides, both_decides}
use Rattle.meaning.proofs.Decide.Among.{Among, among, among_decides, member_b, member_decides, keep, kept, keeps}
use Rattle.meaning.proofs.Decide.Places.{Entry, label_in, entry_of, table, table_found, table_find}

-- a lies inside b; the ends wait for the starts.
abbrev pub inside_b : Label → Label → Bool
inside_b a b = elim (ltb b.start a.start) [ true ↦ ltb a.end b.end | false ↦ false ]

-- That test decides it.
pub inside_decides : (a b : Label) → Decides (Inside a b) (inside_b a b)
inside_decides a b = decides_as (λ h. record { after = h.0; before = h.1 }) (λ h. (h.after, h.before)) (both_decides (lt_decides b.start a.start) (lt_decides a.end b.end))

-- The entries of es that have an entry of es inside.
unfoldable pub around : List Entry → List Entry
around es = keep (λ x. among (λ y. inside_b (label_in y) (label_in x)) es) es

-- The entries with which n + 1 labels that lie each inside the one before begin. Those of n are computed once, as an argument.
unfoldable pub heads : List Entry → ℕ → List Entry
heads es zero = es
heads es (suc n) = around (heads es n)

-- n + 1 labels that lie each inside the one before, the first at a place.
data Chain (t : Lists) : ℕ → Place → Type 0 where
  one : {x : Place} → Holds t x → Chain t zero x
  more : {n : ℕ} {x y : Place} → Holds t x → Inside (label_of t y) (label_of t x) → Chain t n y → Chain t (suc n) x

-- The place with which a chain begins has a label.
chain_holds : {t : Lists} {n : ℕ} {x : Place} → Chain t n x → Holds t x
chain_holds (one h) = h
chain_holds (more h i c) = h

-- A chain without its last label.
shorter : {t : Lists} {n : ℕ} {x : Place} → Chain t (suc n) x → Chain t n x
shorter {n = zero} (more h i c) = one h
shorter {n = suc n} (more h i c) = more h i (shorter c)

-- The entry has an entry of ys inside.
abbrev Around : List Entry → Entry → Type 0
Around ys x = Among (λ y. Inside (label_in y) (label_in x)) ys

-- The test in `around` decides it.
around_decides : (ys : List Entry) (x : Entry) → Decides (Around ys x) (among (λ y. inside_b (label_in y) (label_in x)) ys)
around_decides ys x = among_decides (λ y. inside_decides (label_in y) (label_in x)) ys

-- A place where n + 1 labels that lie each inside the one before begin, and whose entry has a property.
record Begins (t : Lists) (n : ℕ) (P : Entry → Type 0) : Type 0 where
  place : Place
  chain : Chain t n place
  has : P (entry_of t place)

-- An entry of `heads` is one with which a chain begins.
heads_found : (t : Lists) (n : ℕ) (P : Entry → Type 0) → Among P (heads (table t) n) → Begins t n P
unfolding heads around
heads_found t zero P h = let q = table_found t P h in record { place = q.place; chain = one q.holds; has = q.has }
heads_found t (suc n) P h =
    let q = heads_found t n (λ x. Around (heads (table t) n) x × P x) (kept (around_decides (heads (table t) n)) P (heads (table t) n) h) in
    let r = heads_found t n (λ y. Inside (label_in y) (label_of t q.place)) q.has.0 in
    record { place = q.place; chain = more (chain_holds q.chain) r.has r.chain; has = q.has.1 }

-- The entry with which a chain begins is in `heads`.
heads_find : (t : Lists) (n : ℕ) {x : Place} (P : Entry → Type 0) → Chain t n x → P (entry_of t x) → Among P (heads (table t) n)
unfolding heads around
heads_find t zero {x} P (one h) p = table_find t P (record { place = x; holds = h; has = p })
heads_find t (suc n) {x} P (more h i c) p =
    keeps (around_decides (heads (table t) n)) P (heads (table t) n)
    (heads_find t n (λ z. Around (heads (table t) n) z × P z) (shorter (more h i c)) (heads_find t n (λ y. Inside (label_in y) (label_of t x)) c i, p))

-- A sequence of n + 1 nested labels is a chain.
chain_of : (t : Lists) (n : ℕ) (c : ℕ → Place) → Nested t (suc n) c → Chain t n (c 0)
chain_of t zero c h = one (h.holds 0 (omega arith))
chain_of t (suc n) c h = more (h.holds 0 (omega arith)) (h.inside 0 (omega arith)) (chain_of t n (λ i. c (suc i)) (record { holds = λ i l. h.holds (suc i) (omega arith); inside = λ i l. h.inside (suc i) (omega arith) }))

-- A place before a sequence of places.
abbrev before : Place → (ℕ → Place) → ℕ → Place
before x c zero = x
before x c (suc i) = c i

-- A sequence of n + 1 nested labels that begins at a place.
record Sequence (t : Lists) (n : ℕ) (x : Place) : Type 0 where
  places : ℕ → Place
  nested : Nested t (suc n) places
  first : places 0 ≡ x

-- A label around the first of a sequence makes a longer one.
longer : (t : Lists) (n : ℕ) (x y : Place) → Holds t x → Inside (label_of t y) (label_of t x) → Sequence t n y → Sequence t (suc n) x
longer t n x y h i s = record { places = places; nested = record { holds = holds_at; inside = inside_at }; first = refl }
  where
    places : ℕ → Place
    places = before x s.places

    holds_at : (k : ℕ) → k < suc (suc n) → Holds t (places k)
    holds_at zero l = h
    holds_at (suc k) l = s.nested.holds k (omega arith)

    inside_at : (k : ℕ) → suc k < suc (suc n) → Inside (label_of t (places (suc k))) (label_of t (places k))
    inside_at zero l = subst (λ (z : Place). Inside (label_of t z) (label_of t x)) (sym s.first) i
    inside_at (suc k) l = s.nested.inside k (omega arith)

-- A chain is such a sequence.
sequence_of : {t : Lists} {n : ℕ} {x : Place} → Chain t n x → Sequence t n x
sequence_of {x = x} (one h) = record { places = λ i. x; nested = record { holds = λ i l. h; inside = λ i l. absurd (omega arith) }; first = refl }
sequence_of {t} (more {n = n} {x = x} {y = y} h i c) = longer t n x y h i (sequence_of c)

-- There are n + 1 labels that lie each inside the one before exactly if `heads` has a member.
pub nested_decides : (t : Lists) (n : ℕ) → Decides ((c : ℕ → Place) × Nested t (suc n) c) (member_b (heads (table t) n))
nested_decides t n = decides_as to from (member_decides (heads (table t) n))
  where
    to : Among (λ x. Unit) (heads (table t) n) → (c : ℕ → Place) × Nested t (suc n) c
    to h = let s = sequence_of (heads_found t n (λ x. Unit) h).chain in (s.places, s.nested)

    from : (c : ℕ → Place) × Nested t (suc n) c → Among (λ x. Unit) (heads (table t) n)
    from h = heads_find t n (λ x. Unit) (chain_of t n h.0 h.1) tt
