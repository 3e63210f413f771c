-- The table of all labels, which is computed once, and tests of its entries: what is decided of an entry is decided of the places that
-- have a label.
use Prim.Native.Nat.{ℕ, zero, suc, ◌≤◌, ◌<◌}
use native.Mathlib.Nat.{eq-or-lt_of_le, le_of_suc-le-suc}
use native.Mathlib.Omega.{arith}
use mathlib.Core.Path.{◌≡◌, subst}
use mathlib.Core.Logic.{inl, inr, ⊎_elim}
use mathlib.Core.Bool.{Bool}
use mathlib.Core.List.{List, [], ◌∷◌, ◌++◌}
use Rattle.meaning.specs.Answers.{Decides}
use Rattle.meaning.specs.declared.Label.{Label}
use Rattle.meaning.specs.Labels.{Lists, Place, label_of, Holds}
use Rattle.meaning.proofs.Decide.{decides_as}
use Rattle.meaning.proofs.Decide.Among.{Among, among, among_decides, among_left, among_right, among_split}

-- An entry of the table: the list, the list position, the start and the end. antt computes the four when it makes the entry.
pub data Entry : Type 0 where
  entry : ℕ → ℕ → ℕ → ℕ → Entry

-- The place of an entry.
abbrev pub place_in : Entry → Place
place_in (entry r i s e) = record { list = r; at = i }

-- The label of an entry.
abbrev pub label_in : Entry → Label
label_in (entry r i s e) = record { start = s; end = e }

-- The entry of the label at a place.
abbrev pub entry_of : Lists → Place → Entry
entry_of t x = entry x.list x.at (label_of t x).start (label_of t x).end

-- The entries of the first n labels of list r.
unfoldable pub entries_of : Lists → ℕ → ℕ → List Entry
entries_of t r zero = []
entries_of t r (suc n) = entry_of t (record { list = r; at = n }) ∷ entries_of t r n

-- The entries of the first m lists.
unfoldable pub entries_to : Lists → ℕ → List Entry
entries_to t zero = []
entries_to t (suc m) = entries_of t m (t.count m) ++ entries_to t m

-- The whole table.
abbrev pub table : Lists → List Entry
table t = entries_to t t.many

-- A place that has a label, whose entry has a property.
pub record At (t : Lists) (P : Entry → Type 0) : Type 0 where
  pub place : Place
  pub holds : Holds t place
  pub has : P (entry_of t place)

-- The table's entries are those of the places that have a label.
module _ (t : Lists) (P : Entry → Type 0) where
  -- An entry among those of the first n labels of list r is that of a position below n.
  entries_found : (r n : ℕ) → Among P (entries_of t r n) → (i : ℕ) × (i < n) × P (entry_of t (record { list = r; at = i }))
  unfolding entries_of
  entries_found r zero h = absurd h
  entries_found r (suc n) (inl p) = (n, omega arith, p)
  entries_found r (suc n) (inr h) = let q = entries_found r n h in (q.0, omega (arith, q.1), q.2)

  -- The entry of a position below n is among those of the first n labels.
  entries_find : (r n i : ℕ) → i < n → P (entry_of t (record { list = r; at = i })) → Among P (entries_of t r n)
  unfolding entries_of
  entries_find r zero i l p = absurd (omega arith)
  entries_find r (suc n) i l p = ⊎_elim (λ e. inl (subst (λ (k : ℕ). P (entry_of t (record { list = r; at = k }))) e p)) (λ m. inr (entries_find r n i m p)) (eq-or-lt_of_le (le_of_suc-le-suc l))

  -- An entry among those of the first m lists is that of a place that has a label.
  lists_found : (m : ℕ) → m ≤ t.many → Among P (entries_to t m) → At t P
  unfolding entries_to
  lists_found zero l h = absurd h
  lists_found (suc m) l h = ⊎_elim this (lists_found m (omega arith)) (among_split P (entries_of t m (t.count m)) (entries_to t m) h)
    where
      this : Among P (entries_of t m (t.count m)) → At t P
      this g = let q = entries_found m (t.count m) g in record { place = record { list = m; at = q.0 }; holds = record { list_lt = l; at_lt = q.1 }; has = q.2 }

  -- The entry of a place that has a label, in one of the first m lists, is among theirs.
  lists_find : (m : ℕ) (x : Place) → x.list < m → x.at < t.count x.list → P (entry_of t x) → Among P (entries_to t m)
  unfolding entries_to
  lists_find zero x l k p = absurd (omega arith)
  lists_find (suc m) x l k p = ⊎_elim this (λ g. among_right P (entries_of t m (t.count m)) (entries_to t m) (lists_find m x g k p)) (eq-or-lt_of_le (le_of_suc-le-suc l))
    where
      this : x.list ≡ m → Among P (entries_of t m (t.count m) ++ entries_to t m)
      this e = subst (λ (r : ℕ). Among P (entries_of t r (t.count r) ++ entries_to t m)) e (among_left P (entries_of t x.list (t.count x.list)) (entries_to t m) (entries_find x.list (t.count x.list) x.at k p))

  -- An entry of the table is that of a place that has a label.
  pub table_found : Among P (table t) → At t P
  table_found = lists_found t.many (omega arith)

  -- The entry of a place that has a label is in the table.
  pub table_find : At t P → Among P (table t)
  table_find h = lists_find t.many h.place h.holds.list_lt h.holds.at_lt h.has

-- Where a test decides a property of each entry, a search of the table decides whether a place that has a label has it.
pub at_decides : (t : Lists) {P : Entry → Type 0} {f : Entry → Bool} → ((x : Entry) → Decides (P x) (f x)) → Decides (At t P) (among f (table t))
at_decides t {P} d = decides_as (table_found t P) (table_find t P) (among_decides d (table t))

-- Two entries, which may be one, pass together.
unfoldable pub pairs : (Entry → Entry → Bool) → List Entry → Bool
pairs f es = among (λ x. among (f x) es) es

-- Where a test decides a property of each two entries, a search of all pairs decides whether two places that have a label have it.
pub pairs_decides : (t : Lists) {R : Entry → Entry → Type 0} {f : Entry → Entry → Bool} → ((x y : Entry) → Decides (R x y) (f x y)) → Decides (At t (λ x. At t (R x))) (pairs f (table t))
unfolding pairs
pairs_decides t d = at_decides t (λ x. at_decides t (d x))
