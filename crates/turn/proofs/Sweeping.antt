-- The sweep over lists of labels and no bytes: what closes, and what clashes.
use Prim.Native.Nat.{ℕ, suc, ◌≤◌, ◌<◌}
use native.Mathlib.Nat.{eq-or-lt_of_le}
use native.Mathlib.Decide.{ℕ_discrete}
use native.Mathlib.Omega.{arith}
use mathlib.Core.Path.{◌≡◌, sym, ap, subst, ◌∙◌}
use mathlib.Core.Logic.{◌⊎◌, inl, inr, ⊎_elim}
use borrow.Author.Tests.{lt-ltb, le-ltb}
use Rattle.meaning.specs.Labels.{Lists, Place, label_of, Share, Cross, Clash}
use Rattle.order.specs.Walk.{start_of, end_of, Waits, Sorted, next, Comes}
use Rattle.order.proofs.WalkLaws.{below_or, precedes_le}
use Rattle.turn.proofs.Stack.{Before, Fine, Swept, pushed}

-- Below the top a pushed record changes nothing.
pub pushed_below : (stack : ℕ → Place) (depth : ℕ) (x : Place) (k : ℕ) → k < depth → pushed stack depth x k ≡ stack k
unfolding pushed
pushed_below stack depth x k l = simp (lt-ltb k depth l)

-- On top stands the pushed record.
pub pushed_top : (stack : ℕ → Place) (depth : ℕ) (x : Place) → pushed stack depth x depth ≡ x
unfolding pushed
pushed_top stack depth x = simp (le-ltb depth depth (omega arith))

-- Nested or apart goes either way round.
pub fine_sym : (t : Lists) (x y : Place) → Fine t x y → Fine t y x
fine_sym t x y (inl a) = inr (inl a)
fine_sym t x y (inr (inl a)) = inl a
fine_sym t x y (inr (inr (inl a))) = inr (inr (inr a))
fine_sym t x y (inr (inr (inr a))) = inr (inr (inl a))

module _ (t : Lists) (pos : ℕ → ℕ) (stack : ℕ → Place) (depth r : ℕ) (w : Swept t pos stack depth) (sorted : Sorted t pos) (comes : Comes t pos r) where
  -- An open record that ends before the next label starts is closed.
  pub sweep_pop : (k : ℕ) → depth ≡ suc k → Before t (stack k) (next pos r) → Swept t pos stack k
  sweep_pop k e past = record {
    fine = w.fine;
    shallow = w.shallow;
    held = λ j l. w.held j (omega arith);
    nest = λ i j l m. w.nest i j l (omega arith);
    closed = λ x y s v. go x y v (w.closed x y s v);
  }
    where
      go : (x y : Place) → Waits t pos y → ((j : ℕ) × (j < depth) × (stack j ≡ x)) ⊎ Before t x y → ((j : ℕ) × (j < k) × (stack j ≡ x)) ⊎ Before t x y
      go x y v (inr b) = inr b
      go x y v (inl (j, l, q)) = here (ℕ_discrete j k)
        where
          here : Dec (j ≡ k) → ((j : ℕ) × (j < k) × (stack j ≡ x)) ⊎ Before t x y
          here (yes f) = inr (omega (arith, past, precedes_le t (next pos r) y (comes.first y v), ap (end_of t) (sym q ∙ ap stack f)))
          here (no d) = inl (j, ⊎_elim (λ f. absurd (d f)) (λ m. m) (below_or (subst (λ (m : ℕ). j < m) e l)), q)

  -- A label that starts within the last open record, and starts with it or does not end before it, shares a number with it or crosses it.
  pub sweep_clash : (k : ℕ) → k < depth → start_of t (next pos r) ≤ end_of t (stack k)
      → (start_of t (stack k) ≡ start_of t (next pos r)) ⊎ (end_of t (stack k) ≤ end_of t (next pos r)) → Clash t
  sweep_clash k l reach why = record {
    one = stack k;
    other = next pos r;
    holds_one = (w.held k l).holds;
    holds_other = comes.waits.holds;
    two = differ;
    wrong = go why;
  }
    where
      differ : stack k ≡ next pos r → ⊥
      differ e = omega (arith, (w.held k l).past, ap (λ (x : Place). x.at) e, ap (λ (x : Place). pos x.list) e)

      first : start_of t (stack k) ≤ start_of t (next pos r)
      first = precedes_le t (stack k) (next pos r) (sorted (stack k) (next pos r) (w.held k l) comes.waits)

      Wrong : Type 0
      Wrong = Share (label_of t (stack k)) (label_of t (next pos r)) ⊎ Cross (label_of t (stack k)) (label_of t (next pos r))

      ends : start_of t (stack k) < start_of t (next pos r) → start_of t (next pos r) < end_of t (stack k) → (end_of t (stack k) ≡ end_of t (next pos r)) ⊎ (end_of t (stack k) < end_of t (next pos r)) → Wrong
      ends f m (inl e) = inl (inr (inr (inr e)))
      ends f m (inr g) = inr (record { first = f; within = m; past = g })

      meets : start_of t (stack k) < start_of t (next pos r) → end_of t (stack k) ≤ end_of t (next pos r) → (start_of t (next pos r) ≡ end_of t (stack k)) ⊎ (start_of t (next pos r) < end_of t (stack k)) → Wrong
      meets f h (inl e) = inl (inr (inr (inl (sym e))))
      meets f h (inr m) = ends f m (eq-or-lt_of_le h)

      starts : end_of t (stack k) ≤ end_of t (next pos r) → (start_of t (stack k) ≡ start_of t (next pos r)) ⊎ (start_of t (stack k) < start_of t (next pos r)) → Wrong
      starts h (inl e) = inl (inl e)
      starts h (inr f) = meets f h (eq-or-lt_of_le reach)

      go : (start_of t (stack k) ≡ start_of t (next pos r)) ⊎ (end_of t (stack k) ≤ end_of t (next pos r)) → Wrong
      go (inl e) = inl (inl e)
      go (inr h) = starts h (eq-or-lt_of_le first)
