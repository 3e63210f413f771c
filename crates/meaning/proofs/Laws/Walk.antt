-- Pages that go on from each other give all records, each once, in order, within as many pages as there are records, plus one.
use Prim.Native.Nat.{ℕ, zero, suc, ◌+◌, ◌≤◌, ◌<◌}
use native.Mathlib.Omega.{arith}
use mathlib.Core.Path.{◌≡◌, refl, sym, ap, subst, ◌∙◌}
use mathlib.Core.Logic.{inl, inr}
use mathlib.Core.Bool.{Bool, true, false}
use mathlib.Core.List.{List, [], ◌∷◌, ◌++◌, append-nil, append_assoc}
use lib.ListN.{length, take, drop, get_or, take-append-drop, drop_of_length-le, length-drop, length-append, length-take}
use lib.Seq.{length-take-le}
use borrow.Author.Tests.{ltb-false}
use Rattle.meaning.specs.declared.Page.{Page}
use Rattle.meaning.specs.Picks.{Asked}
use Rattle.meaning.specs.Pages.{Ascending, In, Records, Paged}
use Rattle.meaning.proofs.Laws.Record.{records_one, holds_at}
use Rattle.meaning.proofs.Laws.Page.{more_full}

-- A walk from a place: n pages, each with room for at least one row and each going on from the next place of the page before, have given
-- these records, and the last page said whether a further record remains.
pub data Walk (a : Asked) (Row : ℕ → List ℕ → Type 0) : ℕ → ℕ → List ℕ → Bool → Type 0 where
  last : {place room : ℕ} {entry exit : List ℕ} {r : Page} (p : Paged a Row place room entry exit r) → 1 ≤ room
      → Walk a Row place 1 (take r.rows p.all) r.more
  then : {place room n : ℕ} {entry exit is : List ℕ} {r : Page} {more : Bool} (p : Paged a Row place room entry exit r) → 1 ≤ room → r.more ≡ true
      → Walk a Row r.next n is more → Walk a Row place (suc n) (take r.rows p.all ++ is) more

ascending_drop : (all : List ℕ) (n : ℕ) → Ascending all → Ascending (drop n all)
ascending_drop all zero h = h
ascending_drop [] (suc n) h = tt
ascending_drop (x ∷ xs) (suc n) h = ascending_drop xs n h.1

in_drop : (all : List ℕ) (n i : ℕ) → In i (drop n all) → In i all
in_drop all zero i h = h
in_drop [] (suc n) i h = h
in_drop (x ∷ xs) (suc n) i h = inr (in_drop xs n i h)

-- In an ascending list, what stands from a place on is just what is not below the number there.
from_drop : (all : List ℕ) (n d i : ℕ) → Ascending all → n < length all → In i (drop n all) → get_or all n d ≤ i
from_drop [] n d i h l k = absurd (omega arith)
from_drop (x ∷ xs) zero d i h l (inl e) = omega (arith, e)
from_drop (x ∷ xs) zero d i h l (inr k) = omega (arith, h.0 i k)
from_drop (x ∷ xs) (suc n) d i h l k = from_drop xs n d i h.1 (omega arith) k

to_drop : (all : List ℕ) (n d i : ℕ) → Ascending all → n < length all → In i all → get_or all n d ≤ i → In i (drop n all)
to_drop [] n d i h l k g = absurd k
to_drop (x ∷ xs) zero d i h l k g = k
to_drop (x ∷ xs) (suc n) d i h l (inl e) g = absurd (omega (arith, e, h.0 (get_or xs n d) (holds_at xs n d (omega arith))))
to_drop (x ∷ xs) (suc n) d i h l (inr k) g = to_drop xs n d i h.1 (omega arith) k g

-- What a walk of n pages that gave the records `is` has covered of all records.
record Covered (all : List ℕ) (n : ℕ) (is : List ℕ) (more : Bool) : Type 0 where
  rest : List ℕ
  split : all ≡ is ++ rest
  remains : more ≡ true → 1 ≤ length rest
  ended : more ≡ false → rest ≡ []
  pages : n ≤ length is + 1
  full : more ≡ true → n ≤ length is

module _ {a : Asked} {Row : ℕ → List ℕ → Type 0} where
  -- The records from a page's next place on are those that the page did not write.
  rest_records : {place room : ℕ} {entry exit : List ℕ} {r : Page} (p : Paged a Row place room entry exit r) → r.more ≡ true → Records a r.next (drop r.rows p.all)
  rest_records {place} {r = r} p e =
      let l : r.rows < length p.all = (more_full p e).1 in
      let d : ℕ = a.count a.returned in
      let low : place ≤ get_or p.all r.rows d = (p.records.each (get_or p.all r.rows d) (holds_at p.all r.rows d l)).1 in
      record {
        ascending = ascending_drop p.all r.rows p.records.ascending;
        each = λ i h. ((p.records.each i (in_drop p.all r.rows i h)).0, omega (arith, p.next, from_drop p.all r.rows d i p.records.ascending l h));
        every = λ i x k. to_drop p.all r.rows d i p.records.ascending l (p.records.every i x (omega (arith, p.next))) (omega (arith, p.next));
      }

  covered : {place n : ℕ} {is : List ℕ} {more : Bool} → Walk a Row place n is more → (all : List ℕ) → Records a place all → Covered all n is more
  covered {place} (last {room = room} {r = r} p l) all rec =
      let e : all ≡ p.all = records_one a place all p.all rec p.records in
      record {
        rest = drop r.rows p.all;
        split = e ∙ sym (take-append-drop r.rows p.all);
        remains = λ m. omega (arith, length-drop r.rows p.all, (more_full p m).1);
        ended = λ m. drop_of_length-le p.all (ltb-false r.rows (length p.all) (sym p.more ∙ m));
        pages = omega arith;
        full = λ m. omega (arith, length-take r.rows p.all, more_full p m);
      }
  covered {place} (then {room = room} {n = n} {is = is} {r = r} {more = more} p l m w) all rec =
      let e : all ≡ p.all = records_one a place all p.all rec p.records in
      let c : Covered (drop r.rows p.all) n is more = covered w (drop r.rows p.all) (rest_records p m) in
      let long : length (take r.rows p.all ++ is) ≡ r.rows + length is = length-append (take r.rows p.all) is ∙ ap (λ (k : ℕ). k + length is) (length-take-le r.rows p.all (omega (arith, (more_full p m).1))) in
      record {
        rest = c.rest;
        split = e ∙ sym (take-append-drop r.rows p.all) ∙ ap (λ (xs : List ℕ). take r.rows p.all ++ xs) c.split ∙ sym (append_assoc (take r.rows p.all) is c.rest);
        remains = c.remains;
        ended = c.ended;
        pages = omega (arith, long, (more_full p m).0, c.pages);
        full = λ o. omega (arith, long, (more_full p m).0, c.full o);
      }

  -- The records of a walk's first page are those of the walk's place.
  first_records : {place n : ℕ} {is : List ℕ} {more : Bool} → Walk a Row place n is more → (all : List ℕ) × Records a place all
  first_records (last p l) = (p.all, p.records)
  first_records (then p l m w) = (p.all, p.records)

  -- A walk whose last page said that none remains has given all records from its place on, each once, in order.
  pub walk_all : {place n : ℕ} {is : List ℕ} → Walk a Row place n is false → Records a place is
  walk_all {place} {n} {is} w =
      let f = first_records w in
      let c : Covered f.0 n is false = covered w f.0 f.1 in
      subst (λ (xs : List ℕ). Records a place xs) (c.split ∙ ap (λ (xs : List ℕ). is ++ xs) (c.ended refl) ∙ append-nil is) f.1

  -- No walk has more pages than there are records, plus one.
  pub walk_few : {place n : ℕ} {is : List ℕ} {more : Bool} → Walk a Row place n is more → (all : List ℕ) → Records a place all → n ≤ length all + 1
  walk_few {n = n} {is = is} w all rec =
      let c = covered w all rec in
      omega (arith, c.pages, ap length c.split, length-append is c.rest)

  -- While a further record remains, a walk has had fewer pages than there are records: so with as many pages it has ended.
  pub walk_ends : {place n : ℕ} {is : List ℕ} → Walk a Row place n is true → (all : List ℕ) → Records a place all → n < length all
  walk_ends {n = n} {is = is} w all rec =
      let c = covered w all rec in
      omega (arith, c.full refl, c.remains refl, ap length c.split, length-append is c.rest)
