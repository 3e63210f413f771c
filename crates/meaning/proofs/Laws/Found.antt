-- Looking up a name. On a lawful day it finds one thing, and that is the name's list. And the unknown step that a result tells is one.
use Prim.Native.Nat.{ℕ, zero, suc, ◌+◌, ◌<◌}
use native.Mathlib.Nat.{eq-or-lt_of_le, le_of_suc-le-suc}
use native.Mathlib.Omega.{arith}
use mathlib.Core.Path.{◌≡◌, refl, sym, ap, subst, ◌∙◌}
use mathlib.Core.Logic.{◌⊎◌, inl, inr, ⊎_elim}
use mathlib.Core.Bool.{Bool, true, false, cond}
use mathlib.Core.List.{List}
use Rattle.meaning.specs.declared.Body.{Body}
use Rattle.std.specs.Prelude.{Option, Some, None}
use Rattle.meaning.specs.Answers.{Decides, holds, fails}
use Rattle.meaning.specs.Names.{filled, Sooner, same}
use Rattle.meaning.specs.Day.{tags, name_field, row_list, Has, Finds, list_among, list_of}
use Rattle.meaning.specs.Pages.{First, here, nowhere}
use Rattle.meaning.specs.Refusals.{Lawful}
use Rattle.meaning.proofs.Decide.{or_not, lt_decides}
use Rattle.meaning.proofs.Decide.Names.{sooner_decides}
use Rattle.meaning.proofs.Laws.Name.{sooner_proper, sooner_on}
use Rattle.meaning.proofs.Laws.Same.{same_decides}

module _ (b : List ℕ) (law : Lawful b) where
  -- Each row of a lawful day comes before the next.
  next_sooner : (r : ℕ) → suc r < tags b → Sooner (name_field b r) (name_field b (suc r))
  next_sooner r l =
      let (no₁, (no₂, (no₃, rest))) = law in
      ⊎_elim (λ s. s) (λ n. absurd (no₃ (inr (inr (inl (suc r, l, λ w. n (w.order r refl))))))) (or_not (sooner_decides (name_field b r) (name_field b (suc r))))

  -- And before all that follow.
  row_sooner : (q r : ℕ) → q < r → r < tags b → Sooner (name_field b q) (name_field b r)
  row_sooner q zero l k = absurd (omega arith)
  row_sooner q (suc r) l k =
      ⊎_elim (λ e. subst (λ (m : ℕ). Sooner (name_field b m) (name_field b (suc r))) (sym e) (next_sooner r k))
      (λ m. sooner_on (row_sooner q r m (omega arith)) (next_sooner r k)) (eq-or-lt_of_le (le_of_suc-le-suc l))

  -- So no two rows have one name.
  one_row : (q r : ℕ) → q < tags b → r < tags b → name_field b q ≡ name_field b r → q ≡ r
  one_row q r l k e = ⊎_elim (λ i. absurd (apart q r i k e)) (λ m. ⊎_elim (λ i. absurd (apart r q i l (sym e))) (λ j. omega arith) (or_not (lt_decides r q))) (or_not (lt_decides q r))
    where
      apart : (q r : ℕ) → q < r → r < tags b → name_field b q ≡ name_field b r → ⊥
      apart q r i k e = sooner_proper (name_field b r) (subst (λ (f : List ℕ). Sooner f (name_field b r)) e (row_sooner q r i k))

  same_row : (n : List ℕ) (q r : ℕ) → Has b n q → Has b n r → q ≡ r
  same_row n q r hq hr = one_row q r (omega (arith, hq.0)) (omega (arith, hr.0)) (hq.1 ∙ sym hr.1)

  -- Looking up a name in a lawful day finds one thing.
  pub found_one : (n : List ℕ) (f g : Option Body) → Finds b n f → Finds b n g → f ≡ g
  found_one n (Some l) (Some m) (q, hq, d) (r, hr, e) = ap Some (cc (d, e, same_row n q r hq hr))
  found_one n (Some l) None (q, hq, d) no_row = absurd (no_row q hq)
  found_one n None (Some m) no_row (r, hr, e) = absurd (no_row r hr)
  found_one n None None no_row none = refl

-- The list that is found: an unknown name's has no labels.
abbrev pub list_in : Option Body → Body
list_in (Some l) = l
list_in None = record { offset = 0; count = 0 }

-- A list is that of one of the first m rows that has the name, or none of them has it and the list has no labels.
abbrev Among : List ℕ → List ℕ → ℕ → Body → Type 0
Among b n m l = ((r : ℕ) × (r < m) × (name_field b r ≡ filled n) × (l ≡ row_list b r)) ⊎ (((r : ℕ) → r < m → name_field b r ≡ filled n → ⊥) × (l ≡ list_in None))

-- So is the list of the name among these rows.
among : (b n : List ℕ) (m : ℕ) → Among b n m (list_among b n m)
unfolding list_among
among b n zero = inr (λ r l. absurd (omega arith), refl)
among b n (suc m) = go (same (name_field b m) (filled n)) (same_decides (name_field b m) (filled n)) (among b n m)
  where
    go : (t : Bool) → Decides (name_field b m ≡ filled n) t → Among b n m (list_among b n m) → Among b n (suc m) (cond t (row_list b m) (list_among b n m))
    go true (holds e) h = inl (m, omega arith, e, refl)
    go false (fails d) (inl (r, l, e, q)) = inl (r, omega arith, e, q)
    go false (fails d) (inr (before, q)) =
        inr (λ r l e. ⊎_elim (λ i. d (subst (λ (k : ℕ). name_field b k ≡ filled n) i e)) (λ k. before r k e) (eq-or-lt_of_le (le_of_suc-le-suc l)), q)

-- Looking up a name finds something, and the name's list is what is found.
pub list_found : (b n : List ℕ) → (f : Option Body) × Finds b n f × (list_of b n ≡ list_in f)
list_found b n = ⊎_elim (λ h. (Some (row_list b h.0), (h.0, (omega (arith, h.1), h.2), refl), h.3)) (λ h. (None, λ r has. h.0 r (omega (arith, has.0)) has.1, h.1)) (among b n (tags b))

-- On a lawful day a known list is the name's.
pub known_list : (b : List ℕ) → Lawful b → (n : List ℕ) (l : Body) → Finds b n (Some l) → l ≡ list_of b n
known_list b law n l finds = let (f, g, q) = list_found b n in ap list_in (found_one b law n (Some l) f finds g) ∙ sym q

-- An unknown name's list has no labels.
pub unknown_list : (b n : List ℕ) → Finds b n None → list_of b n ≡ list_in None
unknown_list b n no_row = go (list_found b n)
  where
    go : (f : Option Body) × Finds b n f × (list_of b n ≡ list_in f) → list_of b n ≡ list_in None
    go (Some l, (r, has, e), q) = absurd (no_row r has)
    go (None, also, q) = q

-- The first such step is one.
pub first_one : {Such : ℕ → Type 0} {many : ℕ} {m n : Option ℕ} → First Such many m → First Such many n → m ≡ n
first_one (here {s = s} l h before) (here {s = t} k g sooner) =
    ap Some (⊎_elim (λ j. absurd (sooner s j h)) (λ i. ⊎_elim (λ j. absurd (before t j g)) (λ j. omega arith) (or_not (lt_decides t s))) (or_not (lt_decides s t)))
first_one (here {s = s} l h before) (nowhere none) = absurd (none s l h)
first_one (nowhere none) (here {s = t} k g sooner) = absurd (none t k g)
first_one (nowhere none) (nowhere also) = refl

-- Of the first steps and one more: the first such step stays where there was one.
module _ {Such : ℕ → Type 0} {s : ℕ} (k : ℕ) (more : k ≡ s + 1) where
  pub first_kept : {u : Option ℕ} → First Such s u → (j : ℕ) × (j < s) × Such j → First Such k u
  first_kept (here {s = u} l h before) some = here {s = u} (omega arith) h before
  first_kept (nowhere none) some = absurd (none some.0 some.1 some.2)

  -- Where there was none, it is the step more if that is such a step,
  pub first_new : ((j : ℕ) → j < s → Such j → ⊥) → Such s → First Such k (Some s)
  first_new none such = here {s = s} (omega arith) such none

  -- and else all stays as it was.
  pub first_on : {u : Option ℕ} → First Such s u → (Such s → ⊥) → First Such k u
  first_on (here {s = u} l h before) not = here {s = u} (omega arith) h before
  first_on (nowhere none) not = nowhere (λ j l h. ⊎_elim (λ i. none j i h) (λ n. let e : j ≡ s = omega arith in not (subst Such e h)) (or_not (lt_decides j s)))
