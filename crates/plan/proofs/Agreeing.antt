-- Two questions put to a day that agree at their steps have the same picks, the same records and the same pages.
use Prim.Native.Nat.{ℕ, ◌<◌, min}
use native.Mathlib.Omega.{arith}
use mathlib.Core.Path.{◌≡◌, refl, sym, ap, subst, subst₂, ◌∙◌}
use mathlib.Core.List.{List}
use lib.ListN.{length, get_or}
use Rattle.meaning.specs.declared.Page.{Page}
use Rattle.meaning.specs.Notation.{Hook, nothing, from}
use Rattle.meaning.specs.Bytes.{at}
use Rattle.meaning.specs.Picks.{Asked, Edge, Hung, Pick, Returned, Evidence}
use Rattle.meaning.specs.Pages.{Records, Rows, none, row, Paged}
use Rattle.meaning.specs.Fit.{Fit}

-- They agree: the steps, the returned one, and at each step its hook and its records.
pub record Agree (a b : Asked) : Type 0 where
  pub steps : a.steps ≡ b.steps
  pub returned : a.returned ≡ b.returned
  pub hook : (s : ℕ) → s < a.steps → a.hook s ≡ b.hook s
  pub count : (s : ℕ) → s < a.steps → a.count s ≡ b.count s
  pub label : (s i : ℕ) → s < a.steps → a.label s i ≡ b.label s i

pub agree_back : {a b : Asked} → Agree a b → Agree b a
agree_back g = record {
  steps = sym g.steps;
  returned = sym g.returned;
  hook = λ s l. sym (g.hook s (omega (arith, g.steps)));
  count = λ s l. sym (g.count s (omega (arith, g.steps)));
  label = λ s i l. sym (g.label s i (omega (arith, g.steps)));
}

module _ (a b : Asked) (fit : Fit a) (g : Agree a b) where
  hung_agree : (p : ℕ → ℕ) (s : ℕ) → s < a.steps → (h : Hook) → ((u : ℕ) → h ≡ from u → u < s) → Hung a p s h → Hung b p s h
  hung_agree p s l nothing up x = tt
  hung_agree p s l (from u) up x = subst₂ Edge (g.label s (p s) l) (g.label u (p u) (omega (arith, up u refl))) x

  pub pick_agree : (p : ℕ → ℕ) → Pick a p → Pick b p
  pick_agree p pick = record {
    within = λ s l. let k : s < a.steps = omega (arith, g.steps) in omega (arith, g.count s k, pick.within s k);
    hung = λ s l.
        let k : s < a.steps = omega (arith, g.steps) in
        subst (Hung b p s) (g.hook s k) (hung_agree p s k (a.hook s) (λ u e. fit.upward s u k e) (pick.hung s k));
  }

  pub returned_agree : (i : ℕ) → Returned a i → Returned b i
  returned_agree i (p, pick, e) = (p, pick_agree p pick, ap p (sym g.returned) ∙ e)

module _ (a b : Asked) (fit_a : Fit a) (fit_b : Fit b) (g : Agree a b) where
  pub records_agree : (place : ℕ) (all : List ℕ) → Records a place all → Records b place all
  records_agree place all r = record {
    ascending = r.ascending;
    each = λ i h. (returned_agree a b fit_a g i (r.each i h).0, (r.each i h).1);
    every = λ i x l. r.every i (returned_agree b a fit_b (agree_back g) i x) l;
  }

  pub evidence_agree : (i : ℕ) (w : List ℕ) → Evidence a i w → Evidence b i w
  evidence_agree i w x = record {
    long = x.long ∙ g.steps;
    pick = pick_agree a b fit_a g (at w) x.pick;
    here = ap (at w) (sym g.returned) ∙ x.here;
    earliest = λ q pick e s l. x.earliest q (pick_agree b a fit_b (agree_back g) q pick) (ap q g.returned ∙ e) s (omega (arith, g.steps));
  }

  -- Rows of one kind are rows of another, where each row is.
  rows_as : {Row Other : ℕ → List ℕ → Type 0} {is ws : List ℕ} → ((i : ℕ) (w : List ℕ) → Row i w → Other i w) → Rows Row is ws → Rows Other is ws
  rows_as f none = none
  rows_as f (row {i = i} {w = w} x r) = row (f i w x) (rows_as f r)

  -- A page of the one is a page of the other, with rows as each of them is.
  pub paged_agree : (Row Other : ℕ → List ℕ → Type 0) (place room room' : ℕ) (entry exit : List ℕ) (r : Page) → room ≡ room' → ((i : ℕ) (w : List ℕ) → Row i w → Other i w)
      → Paged a Row place room entry exit r → Paged b Other place room' entry exit r
  paged_agree Row Other place room room' entry exit r e f p = record {
    all = p.all;
    records = records_agree place p.all p.records;
    written = p.written;
    rows_written = rows_as f p.rows_written;
    buffer = p.buffer;
    rows = p.rows ∙ ap (λ (n : ℕ). min n (length p.all)) e;
    more = p.more;
    next = p.next ∙ ap (λ (d : ℕ). get_or p.all r.rows d) (g.count a.returned fit_a.returned_lt ∙ ap b.count g.returned);
  }
