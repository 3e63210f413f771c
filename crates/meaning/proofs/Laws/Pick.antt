-- The picks of a question over a fit day are closed under taking the earlier record at every step.
use Prim.Native.Nat.{ℕ, ◌≤◌, ◌<◌, min}
use native.Mathlib.Omega.{arith}
use mathlib.Core.Path.{◌≡◌, refl, ap, subst₂}
use mathlib.Core.Logic.{◌⊎◌, inl, inr, ⊎_elim}
use Rattle.meaning.specs.Labels.{Inside, Apart}
use Rattle.meaning.specs.Notation.{Hook, nothing, from}
use Rattle.meaning.specs.Picks.{Asked, Edge, Hung, Pick}
use Rattle.meaning.proofs.Decide.{or_not, le_decides}
use Rattle.meaning.proofs.Laws.Label.{no_later}
use Rattle.meaning.specs.Fit.{Fit}

-- At every step the earlier of two records.
abbrev pub earlier : (ℕ → ℕ) → (ℕ → ℕ) → ℕ → ℕ
earlier p q s = min (p s) (q s)

-- One of two numbers is at most the other.
pub either_way : (m n : ℕ) → (m ≤ n) ⊎ (n ≤ m)
either_way m n = ⊎_elim (λ l. inl l) (λ l. inr (omega arith)) (or_not (le_decides m n))

module _ (a : Asked) (fit : Fit a) where
  -- In one list the earlier record starts no later.
  pub earlier_starts : (s i j : ℕ) → i ≤ j → j < a.count s → (a.label s i).start ≤ (a.label s j).start
  earlier_starts s = no_later (a.label s) (a.count s) (fit.ascending s)

  -- Records are nested or apart, so that a record which starts within another lies inside it. What else is known of picks rests on this
  -- use of nesting.
  pub within_inside : (s i u j : ℕ) → i < a.count s → j < a.count u → (a.label u j).start < (a.label s i).start → (a.label s i).start ≤ (a.label u j).end → Edge (a.label s i) (a.label u j)
  within_inside s i u j il jl after reached = go (fit.laminar s i u j il jl)
    where
      go : (a.label s i ≡ a.label u j) ⊎ Inside (a.label s i) (a.label u j) ⊎ Inside (a.label u j) (a.label s i) ⊎ Apart (a.label s i) (a.label u j)
          → Edge (a.label s i) (a.label u j)
      go (inl e) = absurd (omega (arith, ap (λ l. l.start) e))
      go (inr (inl h)) = h
      go (inr (inr (inl h))) = absurd (omega (arith, h.after))
      go (inr (inr (inr (inl h)))) = absurd (omega (arith, h, fit.ordered s i il))
      go (inr (inr (inr (inr h)))) = absurd (omega (arith, h))

  -- Record i of step s lies inside record j of step u if i is no later than a record inside j, and lies inside a record that is no
  -- earlier than j.
  crossed : (s i i' u j j' : ℕ) → i ≤ i' → i' < a.count s → j ≤ j' → j' < a.count u
      → Edge (a.label s i) (a.label u j') → Edge (a.label s i') (a.label u j) → Edge (a.label s i) (a.label u j)
  crossed s i i' u j j' ii il jj jl above below =
      within_inside s i u j (omega arith) (omega arith) (omega (arith, earlier_starts u j j' jj jl, above.after))
      (omega (arith, earlier_starts s i i' ii il, fit.ordered s i' il, below.before))

  module _ (p q : ℕ → ℕ) (pick_p : Pick a p) (pick_q : Pick a q) where
    earlier_hung : (s : ℕ) → s < a.steps → (h : Hook) → ((u : ℕ) → h ≡ from u → u < s) → Hung a p s h → Hung a q s h → Hung a (earlier p q) s h
    earlier_hung s sl nothing up hp hq = tt
    earlier_hung s sl (from u) up hp hq = go (either_way (p s) (q s)) (either_way (p u) (q u))
      where
        ul : u < a.steps
        ul = omega (arith, up u refl)

        take : (i j : ℕ) → i ≡ min (p s) (q s) → j ≡ min (p u) (q u) → Edge (a.label s i) (a.label u j) → Edge (a.label s (min (p s) (q s))) (a.label u (min (p u) (q u)))
        take i j e f h = subst₂ (λ (x y : ℕ). Edge (a.label s x) (a.label u y)) e f h

        go : (p s ≤ q s) ⊎ (q s ≤ p s) → (p u ≤ q u) ⊎ (q u ≤ p u) → Edge (a.label s (min (p s) (q s))) (a.label u (min (p u) (q u)))
        go (inl l) (inl k) = take (p s) (p u) (omega arith) (omega arith) hp
        go (inl l) (inr k) = take (p s) (q u) (omega arith) (omega arith) (crossed s (p s) (q s) u (q u) (p u) l (pick_q.within s sl) k (pick_p.within u ul) hp hq)
        go (inr l) (inl k) = take (q s) (p u) (omega arith) (omega arith) (crossed s (q s) (p s) u (p u) (q u) l (pick_p.within s sl) k (pick_q.within u ul) hq hp)
        go (inr l) (inr k) = take (q s) (q u) (omega arith) (omega arith) hq

    -- Taking the earlier record at every step of two picks gives a pick.
    pub earlier_pick : Pick a (earlier p q)
    earlier_pick = record {
      within = λ s sl. omega (arith, pick_p.within s sl);
      hung = λ s sl. earlier_hung s sl (a.hook s) (λ u e. fit.upward s u sl e) (pick_p.hung s sl) (pick_q.hung s sl);
    }

  -- Whether a function is a pick hangs on the question's steps alone.
  module _ (p q : ℕ → ℕ) (agree : (s : ℕ) → s < a.steps → p s ≡ q s) where
    same_hung : (s : ℕ) → s < a.steps → (h : Hook) → ((u : ℕ) → h ≡ from u → u < s) → Hung a p s h → Hung a q s h
    same_hung s sl nothing up h = tt
    same_hung s sl (from u) up h = subst₂ (λ (x y : ℕ). Edge (a.label s x) (a.label u y)) (agree s sl) (agree u (omega (arith, up u refl))) h

    pub same_pick : Pick a p → Pick a q
    same_pick pick = record {
      within = λ s sl. omega (arith, agree s sl, pick.within s sl);
      hung = λ s sl. same_hung s sl (a.hook s) (λ u e. fit.upward s u sl e) (pick.hung s sl);
    }
