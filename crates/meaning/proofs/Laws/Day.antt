-- From a lawful index to what picks rest on (`specs/Fit`): facts about the lists of labels of a question's steps, in which no byte is named.
use Prim.Native.Nat.{ℕ, zero, suc, ◌+◌, ◌≤◌, ◌<◌}
use native.Mathlib.Nat.{eq-or-lt_of_le, le_of_suc-le-suc}
use native.Mathlib.Omega.{arith}
use mathlib.Core.Path.{◌≡◌, sym, ap, subst, subst₂, ◌∙◌}
use mathlib.Core.Logic.{◌⊎◌, inl, inr, ◌≢◌, ⊎_elim}
use mathlib.Core.List.{List}
use Rattle.meaning.specs.declared.Label.{Label}
use Rattle.meaning.specs.declared.Body.{Body}
use Rattle.std.specs.Prelude.{Option, Some, None}
use Rattle.meaning.specs.Limits.{most_tags}
use Rattle.meaning.specs.Labels.{Inside, Apart, Place, label_of, Holds, LawfulLists}
use Rattle.meaning.specs.Day.{tags, count, labels, total, label_at, lists_of, row_list, Finds, list_of, TooShort, OtherVersion, WrongContents, WrongLength}
use Rattle.meaning.specs.Notation.{Path}
use Rattle.meaning.specs.Picks.{asked, step_at}
use Rattle.meaning.specs.Fit.{Fit}
use Rattle.meaning.specs.Refusals.{Lawful}
use Rattle.meaning.proofs.Decide.{or_not, eq_decides}
use Rattle.meaning.proofs.Laws.Found.{list_in, list_found}
use Rattle.meaning.proofs.Laws.Label.{lawful_lists, lawful_ordered, lawful_untangled}
use Rattle.meaning.proofs.Laws.Step.{returned_lt, hook_upward}

-- A list is that of a row below m, or has no labels.
abbrev pub OfRow : List ℕ → ℕ → Body → Type 0
OfRow b m l = ((r : ℕ) × (r < m) × (l ≡ row_list b r)) ⊎ (l.count ≡ 0)

-- The list of a name is that of a row, or has no labels.
pub list_of_row : (b n : List ℕ) → OfRow b (tags b) (list_of b n)
list_of_row b n = go (list_found b n)
  where
    go : (f : Option Body) × Finds b n f × (list_of b n ≡ list_in f) → OfRow b (tags b) (list_of b n)
    go (Some l, (r, has, e), q) = inl (r, has.0, q ∙ e)
    go (None, no_row, q) = inr (ap (λ (l : Body). l.count) q)

count_within : (b : List ℕ) (m r : ℕ) → r < m → count b r ≤ labels b m
unfolding labels
count_within b zero r l = absurd (omega arith)
count_within b (suc m) r l =
    let ih = count_within b m r in
    ⊎_elim (λ e. subst (λ (k : ℕ). count b r ≤ labels b m + count b k) e (omega arith)) (λ k. omega (arith, ih k)) (eq-or-lt_of_le (le_of_suc-le-suc l))

-- No list has more labels than the whole index.
pub list_small : (b n : List ℕ) → (list_of b n).count ≤ total b
list_small b n = ⊎_elim (λ h. subst (λ (l : Body). l.count ≤ total b) (sym h.2) (count_within b (tags b) h.0 h.1)) (λ e. omega (arith, e)) (list_of_row b n)

-- Over 256 tags are refused, and up to 256 are not refused for being so many.
pub tags_over : (b : List ℕ) → 256 < tags b → WrongContents b
tags_over b h = inl (omega arith)

pub tags_within : (b : List ℕ) → tags b ≤ 256 → most_tags < tags b → ⊥
tags_within b h many = omega arith

-- Places with the same list and the same list position are equal.
pub place_≡ : (x y : Place) → x.list ≡ y.list → x.at ≡ y.at → x ≡ y
place_≡ x y p q = λ i. record { list = p i; at = q i }

-- Label i of a list that is a row's, as a label of the day.
module _ (b : List ℕ) where
  abbrev pub at_list : Body → ℕ → Label
  at_list l i = label_at b l.offset i

  -- A label of a list stands at a place of the day.
  abbrev pub Placed : Body → ℕ → Type 0
  Placed l i = (x : Place) × Holds (lists_of b) x × (label_of (lists_of b) x ≡ at_list l i)

  pub placed : (l : Body) (i : ℕ) → OfRow b (tags b) l → i < l.count → Placed l i
  placed l i (inl (r, r-lt, e)) il =
      (record { list = r; at = i }, record { list_lt = r-lt; at_lt = subst (λ (m : Body). i < m.count) e il }, ap (λ (m : Body). at_list m i) (sym e))
  placed l i (inr e) il = absurd (omega arith)

  same_place : (x y : Place) → (x ≡ y) ⊎ (x ≢ y)
  same_place x y = ⊎_elim (λ p. ⊎_elim (λ q. inl (place_≡ x y p q)) (λ q. inr (λ e. q (ap (λ (z : Place). z.at) e))) (equal x.at y.at)) (λ p. inr (λ e. p (ap (λ (z : Place). z.list) e))) (equal x.list y.list)
    where
      equal : (m n : ℕ) → (m ≡ n) ⊎ (m ≢ n)
      equal m n = or_not (eq_decides m n)

  module _ (law : LawfulLists (lists_of b)) (l : Body) (of_l : OfRow b (tags b) l) where
    pub list_ordered : (i : ℕ) → i < l.count → (at_list l i).start < (at_list l i).end
    list_ordered i il = let p = placed l i of_l il in subst (λ (z : Label). z.start < z.end) p.2 (law.ordered p.0 p.1)

    pub list_ascending : (i j : ℕ) → i < j → j < l.count → (at_list l i).start < (at_list l j).start
    list_ascending i j ij jl = go of_l
      where
        go : OfRow b (tags b) l → (at_list l i).start < (at_list l j).start
        go (inl (r, r-lt, e)) =
            subst (λ (m : Body). (at_list m i).start < (at_list m j).start) (sym e) (law.ascending r i j r-lt ij (subst (λ (m : Body). j < m.count) e jl))
        go (inr e) = absurd (omega arith)

    pub list_laminar : (m : Body) → OfRow b (tags b) m → (i j : ℕ) → i < l.count → j < m.count
        → (at_list l i ≡ at_list m j) ⊎ Inside (at_list l i) (at_list m j) ⊎ Inside (at_list m j) (at_list l i) ⊎ Apart (at_list l i) (at_list m j)
    list_laminar m of-m i j il jm = go (placed l i of_l il) (placed m j of-m jm)
      where
        go : Placed l i → Placed m j → (at_list l i ≡ at_list m j) ⊎ Inside (at_list l i) (at_list m j) ⊎ Inside (at_list m j) (at_list l i) ⊎ Apart (at_list l i) (at_list m j)
        go (x, hx, ex) (y, hy, ey) =
            ⊎_elim (λ e. inl (sym ex ∙ ap (label_of (lists_of b)) e ∙ ey))
            (λ n. inr (subst₂ (λ (z w : Label). Inside z w ⊎ Inside w z ⊎ Apart z w) ex ey (law.nested_or_apart x y hx hy n))) (same_place x y)

-- An index is lawful exactly if refusals 1 to 4 do not apply and its lists are lawful.
pub lawful_index : (b : List ℕ) → Lawful b → LawfulLists (lists_of b)
lawful_index b (no₁, (no₂, (no₃, (no₄, (no₅, (no₆, rest)))))) = lawful_lists (lists_of b) no₅ no₆

pub index_lawful : (b : List ℕ) → (TooShort b → ⊥) → (OtherVersion b → ⊥) → (WrongContents b → ⊥) → (WrongLength b → ⊥) → LawfulLists (lists_of b) → Lawful b
index_lawful b no₁ no₂ no₃ no₄ law = (no₁, (no₂, (no₃, (no₄, (lawful_ordered (lists_of b) law, (lawful_untangled (lists_of b) law, tt))))))

-- On a lawful day every question is fit.
pub lawful_fit : (b : List ℕ) (p : Path) → Lawful b → Fit (asked b p)
unfolding asked
lawful_fit b p lawful =
    let law = lawful_index b lawful in
    record {
      returned_lt = returned_lt p;
      upward = hook_upward p;
      ordered = λ s. list_ordered b law (tag s) (list_of_row b (step_at p s).name);
      ascending = λ s. list_ascending b law (tag s) (list_of_row b (step_at p s).name);
      laminar = λ s i u. list_laminar b law (tag s) (list_of_row b (step_at p s).name) (tag u) (list_of_row b (step_at p u).name) i;
    }
  where
    -- The list of step s.
    tag : ℕ → Body
    tag s = list_of b (step_at p s).name
