-- From a lawful index with its times to what the waiting table rests on (`specs/Fit.Sound`).
use Prim.Native.Nat.{ℕ, zero, suc, ◌*◌, ◌≤◌, ◌<◌}
use native.Mathlib.Nat.{eq-or-lt_of_le, le_of_suc-le-suc}
use native.Mathlib.Omega.{arith}
use mathlib.Core.Path.{◌≡◌, sym, ap, subst, subst₂, ◌∙◌}
use mathlib.Core.Logic.{◌⊎◌, inl, inr, ◌≢◌, ⊎_elim}
use mathlib.Core.List.{List}
use lib.ListN.{length, drop, length-take}
use Rattle.meaning.specs.declared.Label.{Label}
use Rattle.meaning.specs.declared.Body.{Body}
use Rattle.std.specs.Prelude.{Option, Some, None}
use Rattle.meaning.specs.Limits.{most_labels}
use Rattle.meaning.specs.Bytes.{at}
use Rattle.meaning.specs.Names.{filled}
use Rattle.meaning.specs.Labels.{Inside, Apart, Place}
use Rattle.meaning.specs.Day.{name_field, Finds, list_of, body_of}
use Rattle.meaning.specs.Waits.{Ending, board, cancel, in_body, call_name, board_name, cancel_name, traffic, NoEntry, TimesDescend}
use Rattle.meaning.specs.Refusals.{Lawful, Clear, check_table, times_table, waits_table}
use Rattle.meaning.specs.Fit.{Sound}
use Rattle.meaning.proofs.Decide.{or_not, le_decides, lt_decides}
use Rattle.meaning.proofs.Laws.Bytes.{label_part}
use Rattle.meaning.proofs.Laws.Found.{list_in, list_found}
use Rattle.meaning.proofs.Laws.Day.{at_list, placed, list_of_row, list_small, list_ordered, list_ascending, list_laminar, lawful_index}
use Rattle.meaning.proofs.Laws.Table.{clear_first, clear_after}
use Rattle.meaning.proofs.Laws.Few.{lawful_small}

-- The labels of a name's body are those of its list.
module _ (b n : List ℕ) where
  abbrev many : ℕ
  many = (in_body (body_of b n)).count

  abbrev mine : ℕ → Label
  mine = (in_body (body_of b n)).label

  within_list : (i : ℕ) → i < many → i < (list_of b n).count
  within_list i l = omega (arith, length-take (8 * (list_of b n).count) (drop (list_of b n).offset b))

  of_list : (i : ℕ) → i < many → mine i ≡ at_list b (list_of b n) i
  of_list i l = label_part b (list_of b n).offset (8 * (list_of b n).count) i (omega (arith, within_list i l))

-- No more labels are in a body than in the index.
few_labels : (b n : List ℕ) → Lawful b → many b n ≤ most_labels
few_labels b n law = omega (arith, length-take (8 * (list_of b n).count) (drop (list_of b n).offset b), list_small b n, lawful_small b law)

module _ (b : List ℕ) (law : Lawful b) where
  body_ascends : (n : List ℕ) (i j : ℕ) → i < j → j < many b n → (mine b n i).start < (mine b n j).start
  body_ascends n i j ij jl =
      subst₂ (λ (x y : Label). x.start < y.start) (sym (of_list b n i (omega arith))) (sym (of_list b n j jl))
      (list_ascending b (lawful_index b law) (list_of b n) (list_of_row b n) i j ij (within_list b n j jl))

  body_ordered : (n : List ℕ) (i : ℕ) → i < many b n → (mine b n i).start < (mine b n i).end
  body_ordered n i il = subst (λ (x : Label). x.start < x.end) (sym (of_list b n i il)) (list_ordered b (lawful_index b law) (list_of b n) (list_of_row b n) i (within_list b n i il))

  -- What starts within a record of another body lies inside it.
  body_whole : (n m : List ℕ) (i j : ℕ) → i < many b n → j < many b m → (mine b n i).start < (mine b m j).start → (mine b m j).start < (mine b n i).end → Inside (mine b m j) (mine b n i)
  body_whole n m i j il jl after before =
      go (subst₂ (λ (x y : Label). (x ≡ y) ⊎ Inside x y ⊎ Inside y x ⊎ Apart x y) (sym (of_list b m j jl)) (sym (of_list b n i il))
      (list_laminar b (lawful_index b law) (list_of b m) (list_of_row b m) (list_of b n) (list_of_row b n) j i (within_list b m j jl) (within_list b n i il)))
    where
      go : (mine b m j ≡ mine b n i) ⊎ Inside (mine b m j) (mine b n i) ⊎ Inside (mine b n i) (mine b m j) ⊎ Apart (mine b m j) (mine b n i) → Inside (mine b m j) (mine b n i)
      go (inl e) = absurd (omega (arith, ap (λ (x : Label). x.start) e))
      go (inr (inl h)) = h
      go (inr (inr (inl h))) = absurd (omega (arith, h.after))
      go (inr (inr (inr (inl h)))) = absurd (omega (arith, body_ordered m j jl))
      go (inr (inr (inr (inr h)))) = absurd (omega arith)

  -- Records of two names start at different numbers: they stand in two rows.
  body_apart : (n m : List ℕ) → filled n ≢ filled m → (i j : ℕ) → i < many b n → j < many b m → (mine b n i).start ≢ (mine b m j).start
  body_apart n m differ i j il jl =
      subst₂ (λ (x y : Label). x.start ≢ y.start) (sym (of_list b n i il)) (sym (of_list b m j jl)) (go (list_found b n) (list_found b m))
    where
      go : (f : Option Body) × Finds b n f × (list_of b n ≡ list_in f) → (g : Option Body) × Finds b m g × (list_of b m ≡ list_in g) → (at_list b (list_of b n) i).start ≢ (at_list b (list_of b m) j).start
      go (None, no_row, p) g = absurd (omega (arith, within_list b n i il, ap (λ (l : Body). l.count) p))
      go (Some l, x, p) (None, no_row, q) = absurd (omega (arith, within_list b m j jl, ap (λ (l : Body). l.count) q))
      go (Some l, (r, has, e), p) (Some k, (s, hat, f), q) =
          subst₂ (λ (x y : Body). (at_list b x i).start ≢ (at_list b y j).start) (sym (p ∙ e)) (sym (q ∙ f))
          ((lawful_index b law).different (record { list = r; at = i }) (record { list = s; at = j })
          (record { list_lt = has.0; at_lt = subst (λ (l : Body). i < l.count) (p ∙ e) (within_list b n i il) })
          (record { list_lt = hat.0; at_lt = subst (λ (l : Body). j < l.count) (q ∙ f) (within_list b m j jl) })
          (λ same. differ (sym has.1 ∙ ap (λ (x : Place). name_field b x.list) same ∙ hat.1))).starts

  -- Each start has an entry, where none is missing.
  body_timed : (times : List ℕ) → (NoEntry b times → ⊥) → (n : List ℕ) (i : ℕ) → i < many b n → (mine b n i).start < length times
  body_timed times all n i il = ⊎_elim (λ h. h) (λ h. absurd (missing (omega arith))) (or_not (lt_decides (mine b n i).start (length times)))
    where
      missing : length times ≤ (mine b n i).start → ⊥
      missing h =
          let (x, hx, e) = placed b (list_of b n) i (list_of_row b n) (within_list b n i il) in
          all (x, hx, inl (subst (λ (z : Label). length times ≤ z.start) (of_list b n i il ∙ sym e) h))

-- Times of which none is smaller than the one before do not descend.
times_forward : (times : List ℕ) → (TimesDescend times → ⊥) → (m n : ℕ) → m ≤ n → n < length times → at times m ≤ at times n
times_forward times forward m zero mn l = let e : m ≡ 0 = omega arith in omega (arith, ap (at times) e)
times_forward times forward m (suc n) mn l =
    ⊎_elim (λ e. omega (arith, ap (at times) e)) (λ k. ⊎_elim (λ h. omega (arith, times_forward times forward m n (le_of_suc-le-suc k) (omega arith))) (λ h. absurd (forward (n, l, omega arith))) (or_not (le_decides (at times n) (at times (suc n)))))
    (eq-or-lt_of_le mn)

-- The traffic of a lawful day whose times are refused for nothing is sound.
pub clear_sound : (b times : List ℕ) → Clear (waits_table b times) → Sound (traffic b times) (length times)
clear_sound b times c = record {
  few = few_labels b call_name law;
  calls_ascend = body_ascends b law call_name;
  ended_ascend = ascend;
  ended_ordered = ordered;
  whole = whole;
  apart = body_apart b law board_name cancel_name (λ e. omega (arith, ap (λ (l : List ℕ). at l 0) e));
  calls_timed = body_timed b law times (clear_after (check_table b) (times_table b times) c).0 call_name;
  ended_timed = timed;
  forward = times_forward times (clear_after (check_table b) (times_table b times) c).1.0;
}
  where
    law : Lawful b
    law = clear_first (check_table b) (times_table b times) c

    ascend : (e : Ending) (i j : ℕ) → i < j → j < ((traffic b times).ended e).count → (((traffic b times).ended e).label i).start < (((traffic b times).ended e).label j).start
    ascend board = body_ascends b law board_name
    ascend cancel = body_ascends b law cancel_name

    ordered : (e : Ending) (j : ℕ) → j < ((traffic b times).ended e).count → (((traffic b times).ended e).label j).start < (((traffic b times).ended e).label j).end
    ordered board = body_ordered b law board_name
    ordered cancel = body_ordered b law cancel_name

    whole : (i : ℕ) (e : Ending) (j : ℕ) → i < (traffic b times).calls.count → j < ((traffic b times).ended e).count → ((traffic b times).calls.label i).start < (((traffic b times).ended e).label j).start
        → (((traffic b times).ended e).label j).start < ((traffic b times).calls.label i).end → Inside (((traffic b times).ended e).label j) ((traffic b times).calls.label i)
    whole i board j = body_whole b law call_name board_name i j
    whole i cancel j = body_whole b law call_name cancel_name i j

    timed : (e : Ending) (j : ℕ) → j < ((traffic b times).ended e).count → (((traffic b times).ended e).label j).start < length times
    timed board = body_timed b law times (clear_after (check_table b) (times_table b times) c).0 board_name
    timed cancel = body_timed b law times (clear_after (check_table b) (times_table b times) c).0 cancel_name
