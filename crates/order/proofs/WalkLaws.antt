-- Laws of a walk, over lists and cursors: what comes next is one label, what was handed out comes before what is left, each label is
-- handed out once, and at the end all were.
use Prim.Native.Nat.{ℕ, suc, ◌+◌, ◌*◌, ◌≤◌, ◌<◌}
use native.Mathlib.Nat.{eq-or-lt_of_le}
use native.Mathlib.Decide.{ℕ_discrete}
use native.Mathlib.Omega.{arith}
use mathlib.Core.Path.{◌≡◌, refl, sym, ap, subst, ◌∙◌}
use mathlib.Core.Logic.{◌⊎◌, inl, inr, ⊎_elim}
use Rattle.std.specs.Prelude.{Option, Some, None}
use Rattle.meaning.specs.Limits.{most_tags}
use Rattle.meaning.specs.Labels.{Lists, Place, Holds}
use Rattle.order.specs.declared.Met.{Met}
use Rattle.order.specs.Walk.{start_of, Ascend, Seen, Waits, Precedes, Sorted, next, Comes, Moved, Done, Foretells}

-- What is below one more is the last or below it.
pub below_or : {k n : ℕ} → k < suc n → (k ≡ n) ⊎ (k < n)
below_or l = eq-or-lt_of_le (omega arith)

-- What comes before starts no later.
pub precedes_le : (t : Lists) (x y : Place) → Precedes t x y → start_of t x ≤ start_of t y
precedes_le t x y (inl l) = omega arith
precedes_le t x y (inr h) = omega (arith, h.0)

-- The order of the walk is that of start and list, put together to one number.
pub precedes_by : (t : Lists) (x y : Place) → x.list < most_tags → y.list < most_tags → most_tags * start_of t x + x.list ≤ most_tags * start_of t y + y.list → Precedes t x y
precedes_by t x y a b h = go (eq-or-lt_of_le le)
  where
    le : start_of t x ≤ start_of t y
    le = omega arith

    go : (start_of t x ≡ start_of t y) ⊎ (start_of t x < start_of t y) → Precedes t x y
    go (inl e) = inr (e, omega arith)
    go (inr l) = inl l

-- One list alone has the label that comes next.
pub comes_one : (t : Lists) (pos : ℕ → ℕ) (r s : ℕ) → Comes t pos r → Comes t pos s → r ≡ s
comes_one t pos r s a b = go (a.first (next pos s) b.waits) (b.first (next pos r) a.waits)
  where
    go : Precedes t (next pos r) (next pos s) → Precedes t (next pos s) (next pos r) → r ≡ s
    go (inl l) m = absurd (omega (arith, precedes_le t (next pos s) (next pos r) m))
    go (inr l) (inl m) = absurd (omega (arith, l.0))
    go (inr l) (inr m) = omega (arith, l.1, m.1)

-- Where every label was handed out none comes next.
pub done_none : (t : Lists) (pos : ℕ → ℕ) (r : ℕ) → Done t pos → Comes t pos r → ⊥
done_none t pos r d c = omega (arith, d r c.waits.holds.list_lt, c.waits.holds.at_lt)

-- What is said of what comes next is fixed, in every number.
pub foretold_fixed : (t : Lists) (pos : ℕ → ℕ) (x y : Option Met) → Foretells t pos x → Foretells t pos y → x ≡ y
foretold_fixed t pos (Some m) (Some n) x y =
    let one = comes_one t pos m.list n.list x.0 y.0 in
    let at : m.at ≡ n.at = x.1 ∙ ap pos one ∙ sym y.1 in
    let starts : m.start ≡ n.start = x.2 ∙ ap (λ (r : ℕ). start_of t (next pos r)) one ∙ sym y.2 in
    let ends : m.end ≡ n.end = cc (x.3, y.3, one) in
    λ j. Some (record { list = one j; at = at j; start = starts j; end = ends j })
foretold_fixed t pos (Some m) None x y = absurd (done_none t pos m.list y x.0)
foretold_fixed t pos None (Some n) x y = absurd (done_none t pos n.list x y.0)
foretold_fixed t pos None None x y = refl

-- Of the labels next in their lists, the first comes before all that wait, since lists ascend.
pub first_of_all : (t : Lists) → Ascend t → (pos : ℕ → ℕ) (r : ℕ) → Waits t pos (next pos r) → ((s : ℕ) → s < t.many → pos s < t.count s → Precedes t (next pos r) (next pos s)) → Comes t pos r
first_of_all t law pos r w h = record { waits = w; first = λ y v. go y v (eq-or-lt_of_le v.ahead) }
  where
    go : (y : Place) → Waits t pos y → (pos y.list ≡ y.at) ⊎ (pos y.list < y.at) → Precedes t (next pos r) y
    go y v (inl e) =
        subst (λ (z : Place). Precedes t (next pos r) z) (ap (λ (i : ℕ). record { list = y.list; at = i }) e)
        (h y.list v.holds.list_lt (omega (arith, v.holds.at_lt)))
    go y v (inr k) =
        let m = h y.list v.holds.list_lt (omega (arith, v.holds.at_lt)) in
        inl (omega (arith, precedes_le t (next pos r) (next pos y.list) m, law y.list (pos y.list) y.at v.holds.list_lt k v.holds.at_lt))

-- Every label is seen when all were handed out.
pub done_seen : (t : Lists) (pos : ℕ → ℕ) → Done t pos → (x : Place) → Holds t x → Seen t pos x
done_seen t pos d x l = record { holds = l; past = omega (arith, l.at_lt, d x.list l.list_lt) }

-- Before the first label nothing is seen.
pub none_seen : (t : Lists) (pos : ℕ → ℕ) → ((r : ℕ) → r < t.many → pos r ≡ 0) → (x : Place) → Seen t pos x → ⊥
none_seen t pos z x s = omega (arith, s.past, z x.list s.holds.list_lt)

-- One label is handed out: list r's cursor moves on.
module _ (t : Lists) (pos pos' : ℕ → ℕ) (r : ℕ) (moved : Moved pos pos' r) where
  -- What is seen now was seen before, or is that label.
  pub seen_old : (x : Place) → Seen t pos' x → Seen t pos x ⊎ (x ≡ next pos r)
  seen_old x s = go (ℕ_discrete x.list r)
    where
      go : Dec (x.list ≡ r) → Seen t pos x ⊎ (x ≡ next pos r)
      go (no d) = inl (record { holds = s.holds; past = subst (λ (m : ℕ). x.at < m) (moved.other x.list d) s.past })
      go (yes e) =
          ⊎_elim (λ f. inr (λ i. record { list = e i; at = f i })) (λ f. inl (record { holds = s.holds; past = subst (λ (m : ℕ). x.at < pos m) (sym e) f }))
          (below_or (omega (arith, ap pos' e, moved.here, s.past)))

  -- No cursor goes back.
  moved_le : (s : ℕ) → pos s ≤ pos' s
  moved_le s = go (ℕ_discrete s r)
    where
      go : Dec (s ≡ r) → pos s ≤ pos' s
      go (no d) = omega (arith, moved.other s d)
      go (yes e) = omega (arith, ap pos e, ap pos' e, moved.here)

  -- What was seen stays seen.
  pub seen_new : (x : Place) → Seen t pos x → Seen t pos' x
  seen_new x s = record { holds = s.holds; past = omega (arith, s.past, moved_le x.list) }

  -- That label is seen now.
  pub seen_next : Holds t (next pos r) → Seen t pos' (next pos r)
  seen_next h = record { holds = h; past = omega (arith, moved.here) }

  -- It was not seen before: each label is handed out once.
  pub seen_once : Seen t pos (next pos r) → ⊥
  seen_once s = omega (arith, s.past)

  -- What waits now waited before.
  pub waits_old : (y : Place) → Waits t pos' y → Waits t pos y
  waits_old y v = record { holds = v.holds; ahead = omega (arith, v.ahead, moved_le y.list) }

  -- What was handed out still comes before what is left.
  pub sorted_on : Comes t pos r → Sorted t pos → Sorted t pos'
  sorted_on comes sorted x y s v =
      ⊎_elim (λ o. sorted x y o (waits_old y v)) (λ e. subst (λ (z : Place). Precedes t z y) (sym e) (comes.first y (waits_old y v))) (seen_old x s)
