-- The sweep over lists of labels: when every list is passed, nothing is tangled.
use Prim.Native.Nat.{ℕ, ◌<◌}
use native.Mathlib.Omega.{arith}
use mathlib.Core.Path.{◌≡◌}
use mathlib.Core.Logic.{◌⊎◌, inl, inr, ◌≢◌, ⊎_elim}
use Rattle.meaning.specs.Labels.{Lists, Place, label_of, Holds, Share, Cross, Tangled}
use Rattle.lists.specs.Ordering.{Ordered}
use Rattle.order.specs.Walk.{start_of, end_of, Done}
use Rattle.order.proofs.WalkLaws.{done_seen}
use Rattle.turn.proofs.Stack.{Fine, Swept}

-- Two pairs of ordered numbers that are nested or apart have no number in common.
none_shared : (a b c d : ℕ) → a < b → c < d → ((c < a) × (b < d)) ⊎ ((a < c) × (d < b)) ⊎ (b < c) ⊎ (d < a) → (a ≡ c) ⊎ (a ≡ d) ⊎ (b ≡ c) ⊎ (b ≡ d) → ⊥
none_shared a b c d ab cd f s = ⊎_elim (λ p. four s (omega arith)) (λ g. ⊎_elim (λ p. four s (omega arith)) (λ g. ⊎_elim (λ p. four s (omega arith)) (λ p. four s (omega arith)) g) g) f
  where
    four : (a ≡ c) ⊎ (a ≡ d) ⊎ (b ≡ c) ⊎ (b ≡ d) → ((a ≢ c) × (a ≢ d) × (b ≢ c) × (b ≢ d)) → ⊥
    four (inl e) d = d.0 e
    four (inr (inl e)) d = d.1 e
    four (inr (inr (inl e))) d = d.2 e
    four (inr (inr (inr e))) d = d.3 e

module _ (t : Lists) (law : Ordered t) where
  -- Labels that are nested or apart neither share a number nor cross.
  no_clash : (x y : Place) → Holds t x → Holds t y → Share (label_of t x) (label_of t y) ⊎ Cross (label_of t x) (label_of t y) → Fine t x y → ⊥
  no_clash x y a b h f = cases h f
    where
      x_up : start_of t x < end_of t x
      x_up = (law x.list a.list_lt).ordered x.at a.at_lt

      y_up : start_of t y < end_of t y
      y_up = (law y.list b.list_lt).ordered y.at b.at_lt

      cases : Share (label_of t x) (label_of t y) ⊎ Cross (label_of t x) (label_of t y) → Fine t x y → ⊥
      cases (inl s) (inl i) = none_shared _ _ _ _ x_up y_up (inl (i.after, i.before)) s
      cases (inl s) (inr (inl i)) = none_shared _ _ _ _ x_up y_up (inr (inl (i.after, i.before))) s
      cases (inl s) (inr (inr (inl i))) = none_shared _ _ _ _ x_up y_up (inr (inr (inl i))) s
      cases (inl s) (inr (inr (inr i))) = none_shared _ _ _ _ x_up y_up (inr (inr (inr i))) s
      cases (inr c) (inl i) = omega (arith, c.first, i.after)
      cases (inr c) (inr (inl i)) = omega (arith, c.past, i.before)
      cases (inr c) (inr (inr (inl i))) = omega (arith, c.within)
      cases (inr c) (inr (inr (inr i))) = omega (arith, c.first, y_up, x_up)

  -- Every list is passed: nothing is tangled.
  pub sweep_end : (pos : ℕ → ℕ) (stack : ℕ → Place) (depth : ℕ) → Swept t pos stack depth → Done t pos → Tangled t → ⊥
  sweep_end pos stack depth w done (inl c) =
      no_clash c.one c.other c.holds_one c.holds_other c.wrong (w.fine c.one c.other (done_seen t pos done _ c.holds_one) (done_seen t pos done _ c.holds_other) c.two)
  sweep_end pos stack depth w done (inr d) = w.shallow d.0 d.1 (λ i l. done_seen t pos done (d.0 i) (d.1.holds i l))
