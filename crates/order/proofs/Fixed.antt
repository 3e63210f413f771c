-- What a walk gives is fixed: the place of every list, and the number that names what comes next.
use Prim.Native.Nat.{ℕ, ◌%◌, ◌≤◌, ◌<◌}
use native.Mathlib.Nat.{lt_of_not-le}
use native.Mathlib.Decide.{dec_le, ℕ_discrete}
use native.Mathlib.Omega.{arith}
use mathlib.Core.Path.{◌≡◌, sym, ap, subst, ◌∙◌}
use mathlib.Core.List.{List}
use Rattle.std.specs.Prelude.{Option, Some, None}
use Rattle.meaning.specs.Limits.{most_tags}
use Rattle.meaning.specs.Labels.{Lists}
use Rattle.meaning.specs.Day.{tags, lists_of}
use Rattle.meaning.specs.Bytes.{at}
use Rattle.tournament.specs.Tournament.{past}
use Rattle.order.specs.declared.Met.{Met}
use Rattle.order.specs.Walk.{start_of, next, Precedes, Comes, Foretells}
use Rattle.order.specs.Standing.{cursor, Cursors, Names, Standing, Begun, HandsOut}
use Rattle.order.proofs.WalkLaws.{comes_one, done_none, foretold_fixed}

-- Cursors that agree on all lists.
abbrev Agree : Lists → (ℕ → ℕ) → (ℕ → ℕ) → Type 0
Agree t pos pos' = (r : ℕ) → r < t.many → pos r ≡ pos' r

-- By cursors that agree the same label comes next.
comes_as : (t : Lists) (pos pos' : ℕ → ℕ) → Agree t pos pos' → (r : ℕ) → Comes t pos r → Comes t pos' r
comes_as t pos pos' agree r c =
    let here : pos r ≡ pos' r = agree r c.waits.holds.list_lt in
    record {
      waits = record { holds = record { list_lt = c.waits.holds.list_lt; at_lt = omega (arith, here, c.waits.holds.at_lt) }; ahead = omega arith };
      first = λ y w. subst (λ (p : ℕ). Precedes t (record { list = r; at = p }) y) here (c.first y (record { holds = w.holds; ahead = omega (arith, agree y.list w.holds.list_lt, w.ahead) }));
    }

-- The number that names what comes next is one.
pub names_fixed : (t : Lists) (pos pos' : ℕ → ℕ) (m n : ℕ) → Agree t pos pos' → Names t pos m → Names t pos' n → m ≡ n
names_fixed t pos pos' m n agree a b = go (dec_le past m) (dec_le past n)
  where
    back : Agree t pos' pos
    back r l = sym (agree r l)

    go : Dec (past ≤ m) → Dec (past ≤ n) → m ≡ n
    go (yes k) (yes l) = omega (arith, a.most, b.most)
    go (yes k) (no d) = absurd (done_none t pos (n % most_tags) (a.none k) (comes_as t pos' pos back (n % most_tags) (b.some (lt_of_not-le d))))
    go (no d) (yes l) = absurd (done_none t pos' (m % most_tags) (b.none l) (comes_as t pos pos' agree (m % most_tags) (a.some (lt_of_not-le d))))
    go (no d) (no e) =
        let c = a.some (lt_of_not-le d) in
        let lists : m % most_tags ≡ n % most_tags = comes_one t pos (m % most_tags) (n % most_tags) c (comes_as t pos' pos back (n % most_tags) (b.some (lt_of_not-le e))) in
        let at : pos (m % most_tags) ≡ pos' (n % most_tags) = agree (m % most_tags) c.waits.holds.list_lt ∙ ap pos' lists in
        let starts : start_of t (next pos (m % most_tags)) ≡ start_of t (next pos' (n % most_tags)) = λ j. (t.label (lists j) (at j)).start in
        omega (arith, lists, starts, a.start (lt_of_not-le d), b.start (lt_of_not-le e))

-- What comes next is one by cursors that agree.
foretold_agree : (t : Lists) (pos pos' : ℕ → ℕ) → Agree t pos pos' → (x y : Option Met) → Foretells t pos x → Foretells t pos' y → x ≡ y
foretold_agree t pos pos' agree (Some m) y f g =
    let here : pos m.list ≡ pos' m.list = agree m.list f.0.waits.holds.list_lt in
    foretold_fixed t pos' (Some m) y (comes_as t pos pos' agree m.list f.0, f.1 ∙ here, cc (f.2, here), cc (f.3, here)) g
foretold_agree t pos pos' agree None y f g = foretold_fixed t pos' None y (λ r l. omega (arith, agree r l, f r l)) g

module _ (b places places' : List ℕ) (w : Cursors b places) (w' : Cursors b places') where
  -- Lists whose cursors are the same have the same places.
  places_as : Agree (lists_of b) (cursor b places) (cursor b places') → (r : ℕ) → r < tags b → at places r ≡ at places' r
  places_as agree r l = omega (arith, agree r l, (w.each r l).begins, (w'.each r l).begins)

-- A walk that begins is one, in the place of every list and in what comes next.
pub begun_fixed : (b places keys places' keys' : List ℕ) (coming coming' : Option Met) → Standing b places keys → Standing b places' keys' → Begun b places → Begun b places'
    → Foretells (lists_of b) (cursor b places) coming → Foretells (lists_of b) (cursor b places') coming' → ((r : ℕ) → r < tags b → at places r ≡ at places' r) × (coming ≡ coming')
begun_fixed b places keys places' keys' coming coming' w w' h h' f f' =
    let agree : Agree (lists_of b) (cursor b places) (cursor b places') = λ r l. h r l ∙ sym (h' r l) in
    (places_as b places places' w.cursors w'.cursors agree, foretold_agree (lists_of b) (cursor b places) (cursor b places') agree coming coming' f f')

-- So is a walk that has handed out a label.
pub hands_out_fixed : (b places : List ℕ) (list : ℕ) (places₁ keys₁ places₂ keys₂ : List ℕ) (coming₁ coming₂ : Option Met)
    → HandsOut b places list places₁ keys₁ coming₁ → HandsOut b places list places₂ keys₂ coming₂
    → ((r : ℕ) → r < tags b → at places₁ r ≡ at places₂ r) × (coming₁ ≡ coming₂)
hands_out_fixed b places list places₁ keys₁ places₂ keys₂ coming₁ coming₂ h h' =
    (places_as b places₁ places₂ h.standing.cursors h'.standing.cursors agree, foretold_agree (lists_of b) (cursor b places₁) (cursor b places₂) agree coming₁ coming₂ h.foretold h'.foretold)
  where
    agree : Agree (lists_of b) (cursor b places₁) (cursor b places₂)
    agree r l = go (ℕ_discrete r list)
      where
        go : Dec (r ≡ list) → cursor b places₁ r ≡ cursor b places₂ r
        go (yes e) = subst (λ (s : ℕ). cursor b places₁ s ≡ cursor b places₂ s) (sym e) (h.moved.here ∙ sym h'.moved.here)
        go (no d) = h.moved.other r d ∙ sym (h'.moved.other r d)
