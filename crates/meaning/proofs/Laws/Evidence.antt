-- A returned record has exactly one evidence row.
use Prim.Native.Nat.{ℕ, zero, suc, ◌≤◌, ◌<◌, min}
use native.Mathlib.Nat.{eq-or-lt_of_le, le_of_suc-le-suc, le_antisymm}
use native.Mathlib.Omega.{arith}
use mathlib.Core.Path.{◌≡◌, refl, sym, subst, ◌∙◌}
use mathlib.Core.Logic.{⊎_elim}
use mathlib.Core.List.{List}
use lib.ListN.{length}
use lib.Seq.{ext_get_or}
use Rattle.meaning.specs.Bytes.{at}
use Rattle.meaning.specs.Picks.{Asked, Pick, Returned, Evidence}
use Rattle.meaning.proofs.Decide.{Least, least_of}
use Rattle.meaning.specs.Fit.{Fit}
use Rattle.meaning.proofs.Laws.Pick.{earlier, earlier_pick, same_pick}
use Rattle.meaning.proofs.Decide.Picks.{row_of, row_long, row_at, through_decides}

-- Two evidence rows for one record are equal, on any day: each is nowhere later than the other.
pub evidence_one : (a : Asked) (i : ℕ) (v w : List ℕ) → Evidence a i v → Evidence a i w → v ≡ w
evidence_one a i v w x y = ext_get_or 0 v w (x.long ∙ sym y.long) same
  where
    same : (s : ℕ) → s < length v → at v s ≡ at w s
    same s l =
        let k : s < a.steps = omega (arith, x.long) in
        le_antisymm (x.earliest (at w) y.pick y.here s k) (y.earliest (at v) x.pick x.here s k)

module _ (a : Asked) (fit : Fit a) (i : ℕ) where
  -- A pick with record i at the returned step that is earliest at each of the first n steps.
  record Early (n : ℕ) : Type 0 where
    p : ℕ → ℕ
    pick : Pick a p
    here : p a.returned ≡ i
    earliest : (q : ℕ → ℕ) → Pick a q → q a.returned ≡ i → (s : ℕ) → s < n → p s ≤ q s

  -- One step more: of the picks with record i take one that is earliest at step n, and at every step the earlier of the two.
  further : (n : ℕ) → n < a.steps → Early n → Early (suc n)
  further n l x = go (least_of (λ v. through_decides a fit i n v l) (x.p n) (x.p, x.pick, (x.here, refl)))
    where
      go : Least (λ v. (q : ℕ → ℕ) × Pick a q × ((q a.returned ≡ i) × (q n ≡ v))) → Early (suc n)
      go low =
          let q : ℕ → ℕ = low.has.0 in
          let here-q : q a.returned ≡ i = low.has.2.0 in
          let at_n : q n ≡ low.it = low.has.2.1 in
          record {
            p = earlier x.p q;
            pick = earlier_pick a fit x.p q x.pick low.has.1;
            here = omega (arith, x.here, here-q);
            earliest = λ o pick e s k.
                ⊎_elim (λ is. subst (λ (j : ℕ). min (x.p j) (q j) ≤ o j) (sym is) (omega (arith, at_n, low.least (o n) (o, pick, (e, refl)))))
                (λ m. omega (arith, x.earliest o pick e s m)) (eq-or-lt_of_le (le_of_suc-le-suc k));
          }

  all_steps : (p : ℕ → ℕ) → Pick a p → p a.returned ≡ i → (n : ℕ) → n ≤ a.steps → Early n
  all_steps p pick e zero l = record { p = p; pick = pick; here = e; earliest = λ q x y s k. absurd (omega arith) }
  all_steps p pick e (suc n) l = further n l (all_steps p pick e n (omega arith))

  -- A returned record of a fit question has an evidence row.
  pub evidence_some : Returned a i → (w : List ℕ) × Evidence a i w
  evidence_some (p, pick, e) =
      let x = all_steps p pick e a.steps (omega arith) in
      let w : List ℕ = row_of x.p a.steps in
      let on : (s : ℕ) → s < a.steps → x.p s ≡ at w s = λ s l. sym (row_at x.p a.steps s l) in (
        w,
        record {
          long = row_long x.p a.steps;
          pick = same_pick a fit x.p (at w) on x.pick;
          here = sym (on a.returned fit.returned_lt) ∙ x.here;
          earliest = λ q y z s l. omega (arith, on s l, x.earliest q y z s l);
        },
      )

  -- A record with an evidence row is returned.
  pub evidence_returned : (w : List ℕ) → Evidence a i w → Returned a i
  evidence_returned w x = (at w, x.pick, x.here)
