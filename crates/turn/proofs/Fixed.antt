-- What a turn gives is fixed: what it decides, in every number, and the walk as far as the walk's own promise fixes it.
use Prim.Native.Nat.{ℕ, ◌<◌}
use mathlib.Core.Path.{◌≡◌, sym, ap, subst, ◌∙◌}
use mathlib.Core.List.{List}
use Rattle.std.specs.Prelude.{Option, Some, None}
use Rattle.meaning.specs.Day.{tags}
use Rattle.meaning.specs.Bytes.{at}
use Rattle.order.specs.declared.Met.{Met}
use Rattle.order.specs.Standing.{HandsOut}
use Rattle.order.proofs.Fixed.{hands_out_fixed}
use Rattle.open.specs.declared.Open.{Open}
use Rattle.turn.specs.declared.Turn.{Turn}
use Rattle.turn.specs.declared.Turn.TheVariants.{Over, Closed, Opened}
use Rattle.turn.specs.Sweep.{opened, Closes, Refuses, Turned, ends, closes, refuses, opens}

-- A record is opened.
abbrev pub Opening : Turn → Type 0
Opening (Over wrong) = ⊥
Opening (Closed coming) = ⊥
Opening (Opened inner coming) = Unit {0}

-- Two outcomes are one: in what was decided, in every list's place, and, where no record is opened, in all that the walk holds.
pub record Alike (b places₁ keys₁ : List ℕ) (turn₁ : Turn) (places₂ keys₂ : List ℕ) (turn₂ : Turn) : Type 0 where
  pub turn : turn₁ ≡ turn₂
  pub place : (r : ℕ) → r < tags b → at places₁ r ≡ at places₂ r
  pub walk : (Opening turn₁ → ⊥) → (places₁ ≡ places₂) × (keys₁ ≡ keys₂)

-- Outcomes of one decision that leave the walk are one.
kept : {b places keys places₁ keys₁ places₂ keys₂ : List ℕ} {turn₁ turn₂ z : Turn} → turn₁ ≡ z → places₁ ≡ places → keys₁ ≡ keys → turn₂ ≡ z → places₂ ≡ places → keys₂ ≡ keys
    → Alike b places₁ keys₁ turn₁ places₂ keys₂ turn₂
kept e pe ke e' pe' ke' = record { turn = e ∙ sym e'; place = λ r l. ap (λ (xs : List ℕ). at xs r) (pe ∙ sym pe'); walk = λ p. (pe ∙ sym pe', ke ∙ sym ke') }

module _ (b places keys : List ℕ) (records : List Open) (coming : Option Met) where
  -- One label comes next.
  one : {m n : Met} → coming ≡ Some m → coming ≡ Some n → m ≡ n
  one c d = cc (c, d)

  -- Where no label is left none comes next.
  none : {m : Met} → coming ≡ None → coming ≡ Some m → ⊥
  none c d = cc (c, d)

  -- It does not close and stay.
  closes_one : {m n : Met} → coming ≡ Some m → coming ≡ Some n → Closes records m.start → (Closes records n.start → ⊥) → ⊥
  closes_one c d h stays = stays (subst (λ (x : Met). Closes records x.start) (one c d) h)

  -- Nor is it refused and free.
  refuses_one : {m n : Met} → coming ≡ Some m → coming ≡ Some n → Refuses records m.start m.end → (Refuses records n.start n.end → ⊥) → ⊥
  refuses_one c d h free = free (subst (λ (x : Met). Refuses records x.start x.end) (one c d) h)

  -- Two outcomes of a turn from the same entry are one.
  pub turned_fixed : (places₁ keys₁ : List ℕ) (turn₁ : Turn) (places₂ keys₂ : List ℕ) (turn₂ : Turn) → Turned b places keys records coming places₁ keys₁ turn₁ → Turned b places keys records coming places₂ keys₂ turn₂
      → Alike b places₁ keys₁ turn₁ places₂ keys₂ turn₂
  turned_fixed places₁ keys₁ turn₁ places₂ keys₂ turn₂ = go
    where
      go : Turned b places keys records coming places₁ keys₁ turn₁ → Turned b places keys records coming places₂ keys₂ turn₂ → Alike b places₁ keys₁ turn₁ places₂ keys₂ turn₂
      go (ends _ e pe ke) (ends _ e' pe' ke') = kept e pe ke e' pe' ke'
      go (closes _ _ _ e pe ke) (closes _ _ _ e' pe' ke') = kept e pe ke e' pe' ke'
      go (refuses _ _ _ _ e pe ke) (refuses _ _ _ _ e' pe' ke') = kept e pe ke e' pe' ke'
      go (opens m x c _ _ h e) (opens n y d _ _ h' e') =
          let met : m ≡ n = one c d in
          let walk = hands_out_fixed b places m.list places₁ keys₁ places₂ keys₂ x y h (subst (λ (z : Met). HandsOut b places z.list places₂ keys₂ y) (sym met) h') in
          record {
            turn = e ∙ (λ j. Opened (opened (met j)) (walk.1 j)) ∙ sym e';
            place = walk.0;
            walk = λ p. absurd (p (subst Opening (sym e) tt));
          }
      go (ends c _ _ _) (closes _ d _ _ _ _) = absurd (none c d)
      go (ends c _ _ _) (refuses _ d _ _ _ _ _) = absurd (none c d)
      go (ends c _ _ _) (opens _ _ d _ _ _ _) = absurd (none c d)
      go (closes _ c _ _ _ _) (ends d _ _ _) = absurd (none d c)
      go (refuses _ c _ _ _ _ _) (ends d _ _ _) = absurd (none d c)
      go (opens _ _ c _ _ _ _) (ends d _ _ _) = absurd (none d c)
      go (closes _ c h _ _ _) (refuses _ d n _ _ _ _) = absurd (closes_one c d h n)
      go (closes _ c h _ _ _) (opens _ _ d n _ _ _) = absurd (closes_one c d h n)
      go (refuses _ c n _ _ _ _) (closes _ d h _ _ _) = absurd (closes_one d c h n)
      go (opens _ _ c n _ _ _) (closes _ d h _ _ _) = absurd (closes_one d c h n)
      go (refuses _ c _ h _ _ _) (opens _ _ d _ n _ _) = absurd (refuses_one c d h n)
      go (opens _ _ c _ n _ _) (refuses _ d _ h _ _ _) = absurd (refuses_one d c h n)
