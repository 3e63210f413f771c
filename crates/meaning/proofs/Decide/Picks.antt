-- Which records are returned, and which row is the evidence, by tests that try every choice of records.
use Prim.Native.Nat.{ℕ, zero, suc, ◌≤◌, ◌<◌}
use native.Mathlib.Omega.{arith}
use mathlib.Core.Path.{◌≡◌, refl, sym, ap, subst, ◌∙◌}
use mathlib.Core.Logic.{⊎_elim}
use mathlib.Core.Bool.{Bool, true, false, not, ◌&&◌}
use mathlib.Core.List.{List, [], ◌∷◌}
use lib.Dec.{ltb, eqb}
use lib.ListN.{length}
use Rattle.meaning.specs.Answers.{Decides, holds}
use Rattle.meaning.specs.declared.Label.{Label}
use Rattle.meaning.specs.Notation.{Hook, nothing, from}
use Rattle.meaning.specs.Bytes.{at}
use Rattle.meaning.specs.Picks.{Asked, Edge, Hung, Pick, Returned, Evidence}
use Rattle.meaning.proofs.Decide.{decides_as, or_not, le_decides, both_decides, lt_decides, eq_decides, and_decides, not_decides, each, each_decides, some, some_decides}
use Rattle.meaning.proofs.Decide.Nesting.{inside_b, inside_decides}
use Rattle.meaning.specs.Fit.{Fit}
use Rattle.meaning.proofs.Laws.Pick.{same_pick}

-- The first n values of a function.
abbrev pub row_of : (ℕ → ℕ) → ℕ → List ℕ
row_of p zero = []
row_of p (suc n) = p 0 ∷ row_of (λ s. p (suc s)) n

pub row_long : (p : ℕ → ℕ) (n : ℕ) → length (row_of p n) ≡ n
row_long p zero = refl
row_long p (suc n) = ap suc (row_long (λ s. p (suc s)) n)

pub row_at : (p : ℕ → ℕ) (n s : ℕ) → s < n → at (row_of p n) s ≡ p s
row_at p zero s l = absurd (omega arith)
row_at p (suc n) zero l = refl
row_at p (suc n) (suc s) l = row_at (λ s. p (suc s)) n s (omega arith)

-- A row of n positions, position s of it below `c s`.
pub record Within (c : ℕ → ℕ) (n : ℕ) (w : List ℕ) : Type 0 where
  pub long : length w ≡ n
  pub below : (s : ℕ) → s < n → at w s < c s

-- Some row of n positions, position s of it below `c s`, passes.
unfoldable pub choose : (ℕ → ℕ) → ℕ → (List ℕ → Bool) → Bool
choose c zero f = f []
choose c (suc n) f = some (c 0) (λ i. choose (λ s. c (suc s)) n (λ w. f (i ∷ w)))

pub choose_decides : (c : ℕ → ℕ) (n : ℕ) {G : List ℕ → Type 0} {f : List ℕ → Bool} → ((w : List ℕ) → Decides (G w) (f w)) → Decides ((w : List ℕ) × Within c n w × G w) (choose c n f)
unfolding choose
choose_decides c zero {G} {f} d = decides_as (λ g. ([], record { long = refl; below = λ s l. absurd (omega arith) }, g)) (λ x. empty x.0 x.1.long x.2) (d [])
  where
    empty : (w : List ℕ) → length w ≡ 0 → G w → G []
    empty [] e g = g
    empty (i ∷ w) e g = absurd (omega arith)
choose_decides c (suc n) {G} {f} d = decides_as to back (some_decides (c 0) (λ i l. choose_decides (λ s. c (suc s)) n (λ w. d (i ∷ w))))
  where
    Rest : ℕ → Type 0
    Rest i = (w : List ℕ) × Within (λ s. c (suc s)) n w × G (i ∷ w)

    first : (i : ℕ) (w : List ℕ) → i < c 0 → ((s : ℕ) → s < n → at w s < c (suc s)) → (s : ℕ) → s < suc n → at (i ∷ w) s < c s
    first i w l h zero k = l
    first i w l h (suc s) k = h s (omega arith)

    to : (i : ℕ) × (i < c 0) × Rest i → (w : List ℕ) × Within c (suc n) w × G w
    to (i, l, (w, h, g)) = (i ∷ w, record { long = ap suc h.long; below = first i w l h.below }, g)

    back : (w : List ℕ) × Within c (suc n) w × G w → (i : ℕ) × (i < c 0) × Rest i
    back ([], h, g) = absurd (omega (arith, h.long))
    back (i ∷ w, h, g) = (i, h.below 0 (omega arith), (w, record { long = omega (arith, h.long); below = λ s l. h.below (suc s) (omega arith) }, g))

-- The test of an edge.
unfoldable pub edge_b : Label → Label → Bool
edge_b mine above = inside_b mine above

-- It decides the edge's relation.
pub edge_decides : (mine above : Label) → Decides (Edge mine above) (edge_b mine above)
unfolding edge_b
edge_decides mine above = inside_decides mine above

module _ (a : Asked) where
  unfoldable pub hung_b : List ℕ → ℕ → Hook → Bool
  hung_b w s nothing = true
  hung_b w s (from u) = edge_b (a.label s (at w s)) (a.label u (at w u))

  hung_decides : (w : List ℕ) (s : ℕ) (h : Hook) → Decides (Hung a (at w) s h) (hung_b w s h)
  unfolding hung_b
  hung_decides w s nothing = holds tt
  hung_decides w s (from u) = edge_decides (a.label s (at w s)) (a.label u (at w u))

  -- Of a row whose positions are in range: it is a pick.
  unfoldable pub pick_b : List ℕ → Bool
  pick_b w = each a.steps (λ s. hung_b w s (a.hook s))

  pub pick_decides : (w : List ℕ) → Decides ((s : ℕ) → s < a.steps → Hung a (at w) s (a.hook s)) (pick_b w)
  unfolding pick_b
  pick_decides w = each_decides a.steps (λ s l. hung_decides w s (a.hook s))

  -- Some pick passes.
  unfoldable pub some_pick : (List ℕ → Bool) → Bool
  some_pick f = choose a.count a.steps (λ w. elim (f w) [ true ↦ pick_b w | false ↦ false ])

  -- A pick has record i at the returned step.
  unfoldable pub returned_b : ℕ → Bool
  returned_b i = some_pick (λ w. eqb (at w a.returned) i)

  -- A pick that has record i at the returned step is at some step earlier than the row w.
  unfoldable pub undercut_b : ℕ → List ℕ → Bool
  undercut_b i w = some_pick (λ q. eqb (at q a.returned) i && some a.steps (λ s. ltb (at q s) (at w s)))

  -- The row is the evidence for record i.
  unfoldable pub evidence_b : ℕ → List ℕ → Bool
  evidence_b i w =
      eqb (length w) a.steps && (each a.steps (λ s. ltb (at w s) (a.count s)) && (pick_b w && (eqb (at w a.returned) i && not (undercut_b i w))))

  module _ (fit : Fit a) where
    -- Some pick has a property that hangs on the question's steps alone.
    pub some_pick_decides : {F : (ℕ → ℕ) → Type 0} {f : List ℕ → Bool}
        → ((p q : ℕ → ℕ) → ((s : ℕ) → s < a.steps → p s ≡ q s) → F p → F q)
        → ((w : List ℕ) → Decides (F (at w)) (f w))
        → Decides ((p : ℕ → ℕ) × Pick a p × F p) (some_pick f)
    unfolding some_pick
    some_pick_decides {F} {f} same d = decides_as to back (choose_decides a.count a.steps both)
      where
        Passes : List ℕ → Type 0
        Passes w = F (at w) × ((s : ℕ) → s < a.steps → Hung a (at w) s (a.hook s))

        both : (w : List ℕ) → Decides (Passes w) (elim (f w) [ true ↦ pick_b w | false ↦ false ])
        both w = both_decides (d w) (pick_decides w)

        to : (w : List ℕ) × Within a.count a.steps w × Passes w → (p : ℕ → ℕ) × Pick a p × F p
        to (w, h, g) = (at w, record { within = h.below; hung = g.1 }, g.0)

        back : (p : ℕ → ℕ) × Pick a p × F p → (w : List ℕ) × Within a.count a.steps w × Passes w
        back (p, pick, x) =
            let w : List ℕ = row_of p a.steps in
            let on : (s : ℕ) → s < a.steps → p s ≡ at w s = λ s l. sym (row_at p a.steps s l) in
            let pick-w : Pick a (at w) = same_pick a fit p (at w) on pick in
            (w, record { long = row_long p a.steps; below = pick-w.within }, (same p (at w) on x, pick-w.hung))

    -- Record i of the returned step's tag is returned.
    pub returned_decides : (i : ℕ) → Decides (Returned a i) (returned_b i)
    unfolding returned_b
    returned_decides i = some_pick_decides (λ p q on e. sym (on a.returned fit.returned_lt) ∙ e) (λ w. eq_decides (at w a.returned) i)

    -- Some pick has record i at the returned step and a given record at a given step.
    pub through_decides : (i s v : ℕ) → s < a.steps → Decides ((p : ℕ → ℕ) × Pick a p × ((p a.returned ≡ i) × (p s ≡ v))) (some_pick (λ w. eqb (at w a.returned) i && eqb (at w s) v))
    through_decides i s v l =
        some_pick_decides (λ p q on e. (sym (on a.returned fit.returned_lt) ∙ e.0, sym (on s l) ∙ e.1))
        (λ w. and_decides (eq_decides (at w a.returned) i) (eq_decides (at w s) v))

    -- Some pick has record i at the returned step and is at some step earlier than the row w.
    Undercut : ℕ → List ℕ → (ℕ → ℕ) → Type 0
    Undercut i w q = (q a.returned ≡ i) × ((s : ℕ) × (s < a.steps) × (q s < at w s))

    undercut_decides : (i : ℕ) (w : List ℕ) → Decides ((q : ℕ → ℕ) × Pick a q × Undercut i w q) (undercut_b i w)
    unfolding undercut_b Undercut
    undercut_decides i w =
        some_pick_decides (λ p q on e. (sym (on a.returned fit.returned_lt) ∙ e.0, (e.1.0, e.1.1, subst (λ (k : ℕ). k < at w e.1.0) (on e.1.0 e.1.1) e.1.2)))
        (λ q. and_decides (eq_decides (at q a.returned) i) (some_decides a.steps (λ s l. lt_decides (at q s) (at w s))))

    -- The row is the evidence for record i.
    pub evidence_decides : (i : ℕ) (w : List ℕ) → Decides (Evidence a i w) (evidence_b i w)
    unfolding evidence_b Undercut
    evidence_decides i w = decides_as to back
        (and_decides (eq_decides (length w) a.steps) (and_decides (each_decides a.steps (λ s l. lt_decides (at w s) (a.count s)))
        (and_decides (pick_decides w) (and_decides (eq_decides (at w a.returned) i) (not_decides (undercut_decides i w))))))
      where
        Parts : Type 0
        Parts = (length w ≡ a.steps) × (((s : ℕ) → s < a.steps → at w s < a.count s) × (((s : ℕ) → s < a.steps → Hung a (at w) s (a.hook s)) × ((at w a.returned ≡ i) × ((q : ℕ → ℕ) × Pick a q × Undercut i w q → ⊥))))

        first : Parts → (q : ℕ → ℕ) → Pick a q → q a.returned ≡ i → (s : ℕ) → s < a.steps → at w s ≤ q s
        first (long, (below, (hung, (here, none)))) q pick e s l = ⊎_elim (λ h. h) (λ h. absurd (none (q, pick, (e, (s, l, omega arith))))) (or_not (le_decides (at w s) (q s)))

        to : Parts → Evidence a i w
        to parts = record {
          long = parts.0;
          pick = record { within = parts.1.0; hung = parts.1.1.0 };
          here = omega (arith, parts.1.1.1.0);
          earliest = λ q pick e s l. omega (arith, first parts q pick e s l);
        }

        back : Evidence a i w → Parts
        back e =
            let here : at w a.returned ≡ i = omega (arith, e.here) in
            (e.long, (e.pick.within, (e.pick.hung, (here, λ u. omega (arith, e.earliest u.0 u.1 u.2.0 u.2.1.0 u.2.1.1, u.2.1.2)))))
