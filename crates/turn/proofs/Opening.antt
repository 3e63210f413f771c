-- The sweep over lists of labels: the next label lies inside every open record, and is opened, or is the 65th of a chain.
use Prim.Native.Nat.{ℕ, zero, suc, ◌+◌, ◌-◌, ◌≤◌, ◌<◌}
use native.Mathlib.Nat.{eq-or-lt_of_le, lt_of_not-le}
use native.Mathlib.Decide.{dec_le}
use native.Mathlib.Omega.{arith}
use mathlib.Core.Path.{◌≡◌, refl, sym, ap, subst, ◌∙◌}
use mathlib.Core.Logic.{◌⊎◌, inl, inr, ◌≢◌, ⊎_elim}
use Rattle.meaning.specs.Limits.{most_nested}
use Rattle.meaning.specs.Labels.{Lists, Place, Holds, Nested}
use Rattle.order.specs.Walk.{start_of, Seen, Waits, Sorted, next, Comes, Moved}
use Rattle.order.proofs.WalkLaws.{below_or, precedes_le, seen_old, seen_new, seen_next, waits_old}
use Rattle.lists.specs.Ordering.{Ordered}
use Rattle.turn.proofs.Stack.{LiesIn, Before, Fine, Swept, pushed}
use Rattle.turn.proofs.Sweeping.{fine_sym, pushed_below, pushed_top}

module _ (t : Lists) (law : Ordered t) (pos : ℕ → ℕ) (stack : ℕ → Place) (depth r : ℕ) (w : Swept t pos stack depth) (sorted : Sorted t pos) (comes : Comes t pos r)
    (top : (k : ℕ) → depth ≡ suc k → LiesIn t (next pos r) (stack k)) where
  -- The next label's place.
  abbrev x₀ : Place
  x₀ = next pos r

  -- The next label lies inside every open record, as it lies inside the last.
  inside_all : (k : ℕ) → k < depth → LiesIn t x₀ (stack k)
  inside_all k l = go depth refl
    where
      further : (m : ℕ) → depth ≡ suc m → k < m → LiesIn t x₀ (stack k)
      further m e f =
          let a = top m e in
          let b = w.nest k m f (omega arith) in
          record { after = omega arith; before = omega arith }

      go : (m : ℕ) → depth ≡ m → LiesIn t x₀ (stack k)
      go zero e = absurd (omega arith)
      go (suc m) e = ⊎_elim (λ f. top k (e ∙ ap suc (sym f))) (λ f. further m e f) (below_or (subst (λ (i : ℕ). k < i) e l))

  -- With 64 open records it is the 65th of a chain.
  pub sweep_deep : most_nested ≤ depth → (c : ℕ → Place) × Nested t (suc most_nested) c
  sweep_deep h = (chain, record { holds = holds; inside = inside })
    where
      chain : ℕ → Place
      chain = pushed stack most_nested x₀

      holds : (i : ℕ) → i < suc most_nested → Holds t (chain i)
      holds i l = ⊎_elim (λ e. subst (λ (x : Place). Holds t x) (sym (ap chain e ∙ pushed_top stack most_nested x₀)) comes.waits.holds) (λ k. subst (λ (x : Place). Holds t x) (sym (pushed_below stack most_nested x₀ i k)) (w.held i (omega arith)).holds) (below_or l)

      inside : (i : ℕ) → suc i < suc most_nested → LiesIn t (chain (suc i)) (chain i)
      inside i l =
          subst (λ (x : Place). LiesIn t (chain (suc i)) x) (sym (pushed_below stack most_nested x₀ i (omega arith)))
          (⊎_elim (λ e. subst (λ (x : Place). LiesIn t x (stack i)) (sym (ap chain e ∙ pushed_top stack most_nested x₀)) (inside_all i (omega arith)))
          (λ k. subst (λ (x : Place). LiesIn t x (stack i)) (sym (pushed_below stack most_nested x₀ (suc i) k)) (w.nest i (suc i) (omega arith) (omega arith))) (below_or l))

  -- And else it is put on top, and its list's cursor moves on.
  module _ (pos' : ℕ → ℕ) (moved : Moved pos pos' r) (room : depth < most_nested) where
    -- The next label is nested in what was seen, or apart from it.
    new_fine : (x : Place) → Seen t pos x → Fine t x x₀
    new_fine x s = ⊎_elim (λ p. inr (inl (subst (λ (y : Place). LiesIn t x₀ y) p.2 (inside_all p.0 p.1)))) (λ b. inr (inr (inl b))) (w.closed x x₀ s comes.waits)

    -- A chain that the next label ends, whose other labels were seen before.
    module _ (c : ℕ → Place) (chain : Nested t (suc most_nested) c) (old : (i : ℕ) → i < most_nested → Seen t pos (c i)) (last : c most_nested ≡ x₀) where
      -- The next label lies inside the one that stands d + 1 places before it in the chain.
      around : (d i : ℕ) → i + suc d ≡ most_nested → LiesIn t x₀ (c i)
      around zero i e = subst (λ (x : Place). LiesIn t x (c i)) (ap c (omega arith) ∙ last) (chain.inside i (omega arith))
      around (suc d) i e =
          let a = around d (suc i) (omega arith) in
          let b = chain.inside i (omega arith) in
          record { after = omega arith; before = omega arith }

      -- The next label lies inside every other of the chain.
      around_at : (i : ℕ) → i < most_nested → LiesIn t x₀ (c i)
      around_at i l = around (most_nested - suc i) i (omega arith)

      -- Every other label of the chain is open.
      open_at : (i : ℕ) → i < most_nested → (k : ℕ) × (k < depth) × (stack k ≡ c i)
      open_at i l = ⊎_elim (λ p. p) (λ b. absurd (omega (arith, (around_at i l).before, (law r comes.waits.holds.list_lt).ordered (pos r) comes.waits.holds.at_lt))) (w.closed (c i) x₀ (old i l) comes.waits)

      -- Label i of the chain stands at place i of the open ones, or higher.
      deeper : (i : ℕ) (l : i < most_nested) → i ≤ (open_at i l).0
      deeper zero l = omega arith
      deeper (suc i) l =
          let m : i < most_nested = omega arith in
          let a = open_at i m in
          let b = open_at (suc i) l in
          let ih = deeper i m in
          let c-in : LiesIn t (c (suc i)) (c i) = chain.inside i (omega arith) in
          let up : LiesIn t (stack b.0) (stack a.0) = subst (λ (x : Place). LiesIn t x (stack a.0)) (sym b.2) (subst (λ (x : Place). LiesIn t (c (suc i)) x) (sym a.2) c-in) in
          go a.0 b.0 a.1 up ih (dec_le b.0 a.0)
        where
          go : (j k : ℕ) → j < depth → LiesIn t (stack k) (stack j) → i ≤ j → Dec (k ≤ j) → suc i ≤ k
          go j k jn up h (no m) = let f = lt_of_not-le m in omega arith
          go j k jn up h (yes m) = ⊎_elim (λ e. absurd (omega (arith, up.after, ap (λ (i : ℕ). start_of t (stack i)) e))) (λ m. absurd (omega (arith, up.after, (w.nest k j m jn).after))) (eq-or-lt_of_le m)

      -- So there are more open ones than there is room for.
      too_deep : ⊥
      too_deep = let a = open_at (most_nested - 1) (omega arith) in let d = deeper (most_nested - 1) (omega arith) in omega (arith, a.1)

    -- Nothing that is seen lies inside the next label.
    none_inside : (x y : Place) → Seen t pos' y → LiesIn t y x → x ≡ x₀ → ⊥
    none_inside x y s i e = go (seen_old t pos pos' r moved y s)
      where
        after : start_of t x₀ < start_of t y
        after = subst (λ (z : Place). start_of t z < start_of t y) e i.after

        go : Seen t pos y ⊎ (y ≡ x₀) → ⊥
        go (inl o) = omega (arith, after, precedes_le t y x₀ (sorted y x₀ o comes.waits))
        go (inr f) = omega (arith, after, ap (start_of t) f)

    -- The next label is opened.
    pub sweep_push : Swept t pos' (pushed stack depth x₀) (suc depth)
    sweep_push = record {
      fine = λ x y s v d. fine x y d (seen_old t pos pos' r moved x s) (seen_old t pos pos' r moved y v);
      shallow = shallow;
      held = λ k l. ⊎_elim (λ e. subst (λ (z : Place). Seen t pos' z) (sym (ap (pushed stack depth x₀) e ∙ pushed_top stack depth x₀)) (seen_next t pos pos' r moved comes.waits.holds)) (λ m. subst (λ (z : Place). Seen t pos' z) (sym (pushed_below stack depth x₀ k m)) (seen_new t pos pos' r moved (stack k) (w.held k m))) (below_or l);
      nest = λ j k l m. subst (λ (z : Place). LiesIn t (pushed stack depth x₀ k) z) (sym (pushed_below stack depth x₀ j (omega arith))) (nest j k l (below_or m));
      closed = λ x y s v. closed x y v (seen_old t pos pos' r moved x s);
    }
      where
        fine : (x y : Place) → x ≢ y → Seen t pos x ⊎ (x ≡ x₀) → Seen t pos y ⊎ (y ≡ x₀) → Fine t x y
        fine x y d (inl a) (inl b) = w.fine x y a b d
        fine x y d (inl a) (inr e) = subst (λ (z : Place). Fine t x z) (sym e) (new_fine x a)
        fine x y d (inr e) (inl b) = subst (λ (z : Place). Fine t z y) (sym e) (fine_sym t y x₀ (new_fine y b))
        fine x y d (inr e) (inr f) = absurd (d (e ∙ sym f))

        shallow : (c : ℕ → Place) → Nested t (suc most_nested) c → ((i : ℕ) → i < suc most_nested → Seen t pos' (c i)) → ⊥
        shallow c chain s = go (seen_old t pos pos' r moved (c most_nested) (s most_nested (omega arith)))
          where
            old : (i : ℕ) → i < most_nested → Seen t pos (c i)
            old i l = ⊎_elim (λ o. o) (λ e. absurd (none_inside (c i) (c (suc i)) (s (suc i) (omega arith)) (chain.inside i (omega arith)) e)) (seen_old t pos pos' r moved (c i) (s i (omega arith)))

            go : Seen t pos (c most_nested) ⊎ (c most_nested ≡ x₀) → ⊥
            go (inr e) = too_deep c chain old e
            go (inl o) = w.shallow c chain (λ i l. ⊎_elim (λ e. subst (λ (j : ℕ). Seen t pos (c j)) (sym e) o) (λ m. old i m) (below_or l))

        nest : (j k : ℕ) → j < k → (k ≡ depth) ⊎ (k < depth) → LiesIn t (pushed stack depth x₀ k) (stack j)
        nest j k l (inl e) = subst (λ (z : Place). LiesIn t z (stack j)) (sym (ap (pushed stack depth x₀) e ∙ pushed_top stack depth x₀)) (inside_all j (omega arith))
        nest j k l (inr m) = subst (λ (z : Place). LiesIn t z (stack j)) (sym (pushed_below stack depth x₀ k m)) (w.nest j k l m)

        closed : (x y : Place) → Waits t pos' y → Seen t pos x ⊎ (x ≡ x₀) → ((k : ℕ) × (k < suc depth) × (pushed stack depth x₀ k ≡ x)) ⊎ Before t x y
        closed x y v (inr e) = inl (depth, omega arith, pushed_top stack depth x₀ ∙ sym e)
        closed x y v (inl o) = ⊎_elim (λ p. inl (p.0, omega (arith, p.1), pushed_below stack depth x₀ p.0 p.1 ∙ p.2)) (λ b. inr b) (w.closed x y o (waits_old t pos pos' r moved y v))
