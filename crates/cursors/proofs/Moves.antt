-- The two moves of a cursor keep it at or before every pick, and where no edge is broken the cursors are a pick.
use Prim.Native.Nat.{ℕ, zero, suc, ◌+◌, ◌-◌, ◌≤◌, ◌<◌}
use native.Mathlib.Nat.{eq-or-lt_of_le, ne_of_lt, le_of_suc-le-suc}
use native.Mathlib.Decide.{ℕ_discrete}
use native.Mathlib.Omega.{arith}
use borrow.Author.Count.{below_more}
use mathlib.Core.Path.{◌≡◌, refl, sym, ap, subst}
use mathlib.Core.Logic.{◌⊎◌, inl, inr, ◌≢◌}
use mathlib.Core.List.{List}
use lib.ListN.{length, set, get_or}
use lib.Seq.{get_or-set_same, get_or-set_other}
use Rattle.meaning.specs.Notation.{Hook, nothing, from}
use Rattle.meaning.specs.Bytes.{at}
use Rattle.meaning.specs.Picks.{Asked, Edge, Hung, Pick}
use Rattle.meaning.proofs.Decide.{at_least}
use Rattle.meaning.specs.Fit.{Fit}
use Rattle.meaning.proofs.Laws.Pick.{earlier_starts, within_inside}
use Rattle.cursors.specs.Cursors.{AtMost, LeastPick, NoPick, Touches, Unbroken}

-- The edge of a pick at a step that hangs from u.
pub edge_of : (a : Asked) (q : ℕ → ℕ) (s u : ℕ) (h : Hook) → h ≡ from u → Hung a q s h → Edge (a.label s (q s)) (a.label u (q u))
edge_of a q s u h e x = subst (Hung a q s) e x

-- A step whose edges all hold is hung as it must be.
pub hung_of : (a : Asked) (q : ℕ → ℕ) (s : ℕ) (h : Hook) → ((u : ℕ) → h ≡ from u → Edge (a.label s (q s)) (a.label u (q u))) → Hung a q s h
hung_of a q s nothing f = tt
hung_of a q s (from u) f = f u refl

-- Every pick at or after `low` is at or after p.
abbrev pub Bound : Asked → (ℕ → ℕ) → (ℕ → ℕ) → Type 0
Bound a low p = (q : ℕ → ℕ) → Pick a q → AtMost a low q → AtMost a p q

-- The cursors xs, on their way: no pick that is wanted lies before them, and those of the steps below s are in range with no broken edge.
pub record Settling (a : Asked) (low : ℕ → ℕ) (xs : List ℕ) (s : ℕ) : Type 0 where
  pub bound : Bound a low (at xs)
  pub later : AtMost a low (at xs)
  pub held : Unbroken a (at xs) s

-- What is known of the steps below s is known of those below each step before it.
pub unbroken_before : {a : Asked} {p : ℕ → ℕ} (s t : ℕ) → t ≤ s → Unbroken a p s → Unbroken a p t
unbroken_before s t l h = record { ranged = λ j k. h.ranged j (omega arith); touches = λ j k. h.touches j (omega arith) }

-- A fact of each element after a store: at the stored place, and at each other.
pub set_cases : {A : Type 0} (d : A) (P : ℕ → A → Type 0) (xs : List A) (s : ℕ) (r : A) → s < length xs → P s r → ((j : ℕ) → j ≢ s → P j (get_or xs j d)) → (j : ℕ) → P j (get_or (set xs s r) j d)
set_cases d P xs s r l here other j = go (ℕ_discrete j s)
  where
    go : Dec (j ≡ s) → P j (get_or (set xs s r) j d)
    go (yes e) = rw (e, get_or-set_same xs s r d l) here
    go (no n) = rw (get_or-set_other xs s j r d n) (other j n)

module _ (a : Asked) (fit : Fit a) (low : ℕ → ℕ) where
  -- No pick has step s before r, where the records before r start at or before the present record of u, from which s hangs.
  jump_bound : (p : ℕ → ℕ) (s u r : ℕ) → Bound a low p → s < a.steps → a.hook s ≡ from u
      → ((i : ℕ) → i < r → i < a.count s → (a.label s i).start ≤ (a.label u (p u)).start)
      → (q : ℕ → ℕ) → Pick a q → AtMost a low q → r ≤ q s
  jump_bound p s u r b sk e first q pick f =
      let us : u < s = fit.upward s u sk e in
      let outer : (a.label u (p u)).start ≤ (a.label u (q u)).start = earlier_starts a fit u (p u) (q u) (b q pick f u (omega arith)) (pick.within u (omega arith)) in
      let edge : Edge (a.label s (q s)) (a.label u (q u)) = edge_of a q s u (a.hook s) e (pick.hung s sk) in
      at_least {P = λ j. j ≡ q s} r (λ j l i. omega (arith, edge.after, outer, first (q s) (subst (λ (k : ℕ). k < r) i l) (pick.within s sk))) (q s) refl

  -- No pick has u where it is, where the record of s, which hangs from u, starts past that record's end.
  step_bound : (p : ℕ → ℕ) (s u : ℕ) → Bound a low p → s < a.steps → a.hook s ≡ from u
      → (a.label u (p u)).end < (a.label s (p s)).start
      → (q : ℕ → ℕ) → Pick a q → AtMost a low q → p u + 1 ≤ q u
  step_bound p s u b sk e past q pick f = go (eq-or-lt_of_le (b q pick f u (omega (arith, fit.upward s u sk e))))
    where
      go : (p u ≡ q u) ⊎ (p u < q u) → p u + 1 ≤ q u
      go (inr l) = omega arith
      go (inl i) =
          let edge : Edge (a.label s (q s)) (a.label u (q u)) = edge_of a q s u (a.hook s) e (pick.hung s sk) in
          absurd (omega (arith, past, ap (λ (k : ℕ). (a.label u k).end) i, edge.before, fit.ordered s (q s) (pick.within s sk), earlier_starts a fit s (p s) (q s) (b q pick f s sk) (pick.within s sk)))

  -- Past the end of its list a cursor leaves no pick.
  pub none_past : (xs : List ℕ) (s : ℕ) → Settling a low xs s → s < a.steps → a.count s ≤ at xs s → NoPick a low
  none_past xs s w sk c q pick f = omega (arith, w.bound q pick f s sk, pick.within s sk)

  -- The cursors go on to the next step: that of s is in range, and its edge is not broken.
  pub settle_on : (xs : List ℕ) (s : ℕ) → Settling a low xs s → at xs s < a.count s → ((u : ℕ) → a.hook s ≡ from u → Touches a (at xs) s u) → Settling a low xs (s + 1)
  settle_on xs s w c h = record {
    bound = w.bound;
    later = w.later;
    held = record { ranged = below_more _ s w.held.ranged c; touches = below_more _ s w.held.touches h };
  }

  -- A store at c or above leaves what is known below c as it was.
  keep_below : (xs : List ℕ) (s v c : ℕ) → Settling a low xs s → s ≤ a.steps → c ≤ s
      → Bound a low (at (set xs c v)) → AtMost a low (at (set xs c v)) → Settling a low (set xs c v) c
  keep_below xs s v c w sk cs b l = record {
    bound = b;
    later = l;
    held = record {
      ranged = λ j k. rw (same j k) (w.held.ranged j (omega arith));
      touches = λ j k u e.
          let us : u < j = fit.upward j u (omega arith) e in
          let h = w.held.touches j (omega arith) u e in
          record { after = rw (same j k, same u (omega arith)) h.after; reached = rw (same j k, same u (omega arith)) h.reached };
    };
  }
    where
      same : (j : ℕ) → j < c → at (set xs c v) j ≡ at xs j
      same j k = get_or-set_other xs c j v 0 (ne_of_lt k)

  -- A cursor is raised to v, which no wanted pick is before.
  raise : (xs : List ℕ) (s c v : ℕ) → Settling a low xs s → s ≤ a.steps → c ≤ s → c < length xs → at xs c ≤ v
      → ((q : ℕ → ℕ) → Pick a q → AtMost a low q → v ≤ q c) → Settling a low (set xs c v) c
  raise xs s c v w sk cs cl up least = keep_below xs s v c w sk cs bound later
    where
      bound : Bound a low (at (set xs c v))
      bound q pick f = set_cases 0 (λ j x. j < a.steps → x ≤ q j) xs c v cl (λ _. least q pick f) (λ j _ k. w.bound q pick f j k)

      later : AtMost a low (at (set xs c v))
      later = set_cases 0 (λ j x. j < a.steps → low j ≤ x) xs c v cl (λ k. omega (arith, w.later c k)) (λ j _ k. w.later j k)

  -- The cursor of s jumps to the first record that starts after the record of u.
  pub jump : (xs : List ℕ) (s u r : ℕ) → Settling a low xs s → s < a.steps → a.hook s ≡ from u → s < length xs → at xs s < r
      → ((i : ℕ) → i < r → i < a.count s → (a.label s i).start ≤ (a.label u (at xs u)).start) → Settling a low (set xs s r) s
  jump xs s u r w sk e sl up first =
      raise xs s s r w (omega arith) (omega arith) sl (omega arith) (jump_bound (at xs) s u r w.bound sk e first)

  -- The cursor of u leaves a record that is done for, and goes to the next, v. The walk falls back to u, or to a step before it.
  pub back : (xs : List ℕ) (s u v t : ℕ) → Settling a low xs s → s < a.steps → a.hook s ≡ from u → s < length xs → v ≡ at xs u + 1 → t ≤ u
      → (a.label u (at xs u)).end < (a.label s (at xs s)).start → Settling a low (set xs u v) t
  back xs s u v t w sk e sl next tu past =
      let us : u < s = fit.upward s u sk e in
      let r = raise xs s u v w (omega arith) (omega arith) (omega arith) (omega arith) (λ q pick f. omega (arith, step_bound (at xs) s u w.bound sk e past q pick f)) in
      record { bound = r.bound; later = r.later; held = unbroken_before u t tu r.held }

  -- All steps have been passed: the cursors are the least pick.
  pub settled : (xs : List ℕ) → Settling a low xs a.steps → LeastPick a low (at xs)
  settled xs w = record {
    pick = record {
      within = w.held.ranged;
      hung = λ s sk. hung_of a (at xs) s (a.hook s) (λ u e.
          let us : u < s = fit.upward s u sk e in
          let t = w.held.touches s sk u e in
          within_inside a fit s (at xs s) u (at xs u) (w.held.ranged s sk) (w.held.ranged u (omega arith)) t.after t.reached);
    };
    later = w.later;
    least = w.bound;
  }

  -- The walk begins where the cursors are, at a step below which no edge is broken.
  pub begin : (xs : List ℕ) (s : ℕ) → ((j : ℕ) → low j ≡ at xs j) → Unbroken a (at xs) s → Settling a low xs s
  begin xs s e h = record { bound = λ q pick f j k. rw (← e j) (f j k); later = λ j k. omega (arith, e j); held = h }

-- What is left of the lists of the first k steps, past their cursors.
pub remaining : (ℕ → ℕ) → List ℕ → ℕ → ℕ
remaining count xs zero = 0
remaining count xs (suc k) = remaining count xs k + (count k - at xs k)

remaining_out : (count : ℕ → ℕ) (xs : List ℕ) (k c v : ℕ) → k ≤ c → remaining count (set xs c v) k ≡ remaining count xs k
unfolding remaining
remaining_out count xs zero c v l = refl
remaining_out count xs (suc k) c v l = simp (remaining_out count xs k c v (omega arith), get_or-set_other xs c k v 0 (ne_of_lt l))

-- A cursor in range that is raised leaves less.
pub remaining_falls : (count : ℕ → ℕ) (xs : List ℕ) (k c v : ℕ) → c < k → c < length xs → at xs c < v → at xs c < count c
    → remaining count (set xs c v) k < remaining count xs k
unfolding remaining
remaining_falls count xs zero c v ck cl up room = absurd (omega arith)
remaining_falls count xs (suc k) c v ck cl up room = go (eq-or-lt_of_le (le_of_suc-le-suc ck)) (remaining_falls count xs k c v)
  where
    go : (c ≡ k) ⊎ (c < k) → (c < k → c < length xs → at xs c < v → at xs c < count c → remaining count (set xs c v) k < remaining count xs k)
        → remaining count (set xs c v) k + (count k - at (set xs c v) k) < remaining count xs k + (count k - at xs k)
    go (inr l) ih = simp (get_or-set_other xs c k v 0 (λ e. ne_of_lt l (sym e))) (omega (arith, ih l cl up room))
    go (inl e) ih = rw (← e, remaining_out count xs c c v (omega arith), get_or-set_same xs c v 0 cl) (omega arith)
