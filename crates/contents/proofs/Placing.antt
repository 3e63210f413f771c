-- What refusals 1 to 4 leave: every row and every list lies within the index.
use Prim.Native.Nat.{ℕ, zero, suc, ◌+◌, ◌*◌, ◌-◌, ◌≤◌, ◌<◌}
use native.Mathlib.Omega.{arith}
use mathlib.Core.Path.{◌≡◌, refl, ap}
use mathlib.Core.Logic.{inl, inr, ⊎_elim}
use mathlib.Core.List.{List}
use lib.ListN.{length}
use Rattle.meaning.specs.Limits.{most_tags, most_labels}
use Rattle.meaning.specs.Day.{tags, count, labels, total, offset, body_at, row_at, WrongContents, WrongLength}
use Rattle.meaning.specs.Refusals.{Lawful}
use Rattle.meaning.proofs.Decide.{or_not, eq_decides}
use Rattle.contents.specs.Parts.{Placed}

-- What is not different is equal.
not_different : (i n : ℕ) → ((i ≡ n → ⊥) → ⊥) → i ≡ n
not_different i n h = ⊎_elim (λ e. e) (λ d. absurd (h d)) (or_not (eq_decides i n))

-- One row more has its own labels more.
pub labels_suc : (b : List ℕ) (r : ℕ) → labels b (suc r) ≡ labels b r + count b r
unfolding labels
labels_suc b r = refl

-- The first rows have no more labels than these and further ones.
labels_le : (b : List ℕ) (r d : ℕ) → labels b r ≤ labels b (r + d)
labels_le b r zero = let same : r + 0 ≡ r = omega arith in omega (arith, ap (labels b) same)
labels_le b r (suc d) =
    let h = labels_le b r d in
    let same : r + suc d ≡ suc (r + d) = omega arith in
    omega (arith, ap (labels b) same, labels_suc b (r + d))

-- The first rows and the next have no more labels than all.
labels_upto : (b : List ℕ) (r : ℕ) → r < tags b → labels b r + count b r ≤ total b
labels_upto b r l =
    let same : suc r + (tags b - suc r) ≡ tags b = omega arith in
    omega (arith, labels_le b (suc r) (tags b - suc r), labels_suc b r, ap (labels b) same)

-- Bodies that follow each other without gaps, in an index of that length, lie within it.
pub placed_by : (b : List ℕ) → tags b ≤ most_tags → row_at (tags b) ≤ length b → ((r : ℕ) → r < tags b → offset b r ≡ body_at b r) → total b ≤ most_labels → length b ≡ row_at (tags b) + 8 * total b → Placed b
placed_by b few rows place small long = record {
  few = few;
  rows = rows;
  held = λ r l. omega (arith, place r l, labels_upto b r l);
  small = λ r l. omega (arith, labels_upto b r l);
}

-- An index that refusals 3 and 4 do not apply to has every list within it.
pub placed_unless : (b : List ℕ) → (WrongContents b → ⊥) → (WrongLength b → ⊥) → Placed b
placed_unless b no₃ no₄ =
    let few : most_tags < tags b → ⊥ = λ l. no₃ (inl l) in
    let rows : length b < row_at (tags b) → ⊥ = λ l. no₃ (inr (inl l)) in
    let small : most_labels < total b → ⊥ = λ l. no₃ (inr (inr (inr l))) in
    placed_by b (omega arith) (omega arith) (λ r l. not_different (offset b r) (body_at b r) (λ d. no₃ (inr (inr (inl (r, l, λ w. d w.place))))))
    (omega arith) (not_different (length b) (row_at (tags b) + 8 * total b) no₄)

-- So has a lawful index.
pub lawful_placed : (b : List ℕ) → Lawful b → Placed b
lawful_placed b (no₁, (no₂, (no₃, (no₄, rest)))) = placed_unless b no₃ no₄
