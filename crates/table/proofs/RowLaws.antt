-- The rows of the table of contents: the order of a row, when a row is right, and the loop over all rows.
use Prim.Native.Nat.{ℕ, suc, ◌+◌, ◌*◌, ◌-◌, ◌≤◌, ◌<◌}
use native.Mathlib.Nat.{eq-or-lt_of_le}
use native.Mathlib.Omega.{arith}
use borrow.Author.Count.{below_more}
use mathlib.Core.Path.{◌≡◌, refl, sym, ap, subst, ◌∙◌}
use mathlib.Core.Logic.{◌≢◌, ⊎_elim}
use mathlib.Core.Bool.{Bool}
use Rattle.std.specs.Prelude.{Some}
use mathlib.Core.List.{List}
use Rattle.meaning.specs.Names.{Sooner}
use Rattle.meaning.specs.Day.{tags, count, labels, offset, body_at, name_field, RowRight}
use Rattle.meaning.specs.Answers.{Decides}
use Rattle.meaning.proofs.Decide.{decides_as}
use Rattle.filled.specs.Fields.{HasName}
use Rattle.contents.proofs.Placing.{labels_suc}
use Rattle.table.specs.Tests.{InOrder, AllRows}

-- The first row has none before it.
pub first_in_order : (b : List ℕ) (r : ℕ) → r ≡ 0 → InOrder b r
first_in_order b r e q f = absurd (omega arith)

-- A number that is not 0 is one more than the number before it.
suc_pred : (r : ℕ) → r ≢ 0 → suc (r - 1) ≡ r
suc_pred r some = ⊎_elim (λ e. absurd (some (sym e))) (λ l. omega arith) (eq-or-lt_of_le {n = 0} {m = r} (omega arith))

-- A later row is in order if it comes after the row before.
pub later_in_order : (b : List ℕ) (r : ℕ) (a : Bool) → r ≢ 0 → Decides (Sooner (name_field b (r - 1)) (name_field b r)) a → Decides (InOrder b r) a
later_in_order b r a some d = decides_as to (λ h. h (r - 1) (suc_pred r some)) d
  where
    to : Sooner (name_field b (r - 1)) (name_field b r) → InOrder b r
    to h q e = let f : r - 1 ≡ q = omega arith in subst (λ (k : ℕ). Sooner (name_field b k) (name_field b r)) f h

-- A row with a name and in order is right if its body begins where it has to.
pub row_as : (b : List ℕ) (r : ℕ) (a : Bool) → HasName (name_field b r) → InOrder b r → Decides (offset b r ≡ body_at b r) a → Decides (RowRight b r) a
row_as b r a name order = decides_as (λ e. record { name = name.name; is_name = name.is_name; here = name.here; order = order; place = e }) (λ h. h.place)

-- The name of a row that is right.
pub row_named : (b : List ℕ) (r : ℕ) → RowRight b r → HasName (name_field b r)
row_named b r h = record { name = h.name; is_name = h.is_name; here = h.here }

-- The loop over the rows: the first r are right, and have n labels together, which is no more than r counts of 32 bits can say.
pub record Counted (b : List ℕ) (r n : ℕ) : Type 0 where
  pub r_le : r ≤ tags b
  pub right : (k : ℕ) → k < r → RowRight b k
  pub n_is : n ≡ labels b r
  pub n_le : n ≤ r * 4294967296

-- Before the first row nothing is counted.
pub counted_begin : (b : List ℕ) → Counted b 0 0
unfolding labels
counted_begin b = record { r_le = omega arith; right = λ k l. absurd (omega arith); n_is = refl; n_le = omega arith }

-- A row that is right is counted.
pub counted_on : (b : List ℕ) (r n v : ℕ) → Counted b r n → r < tags b → RowRight b r → v ≡ count b r → v < 4294967296 → Counted b (r + 1) (n + v)
counted_on b r n v w l right e f = record {
  r_le = omega arith;
  right = below_more _ r w.right right;
  n_is = let g : r + 1 ≡ suc r = omega arith in omega (arith, w.n_is, labels_suc b r, ap (labels b) g);
  n_le = omega (arith, w.n_le);
}

-- Behind the last row all are counted.
pub counted_end : (b : List ℕ) (r n : ℕ) → Counted b r n → tags b ≤ r → AllRows b (Some n)
counted_end b r n w l = let e : r ≡ tags b = omega (arith, w.r_le) in (λ k m. w.right k (omega arith), w.n_is ∙ ap (labels b) e)
