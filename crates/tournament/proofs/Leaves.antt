-- The numbers that play, as a list: what a store makes of them, and that the root is the least of them.
use Prim.Native.Nat.{ℕ, ◌+◌, ◌*◌, ◌≤◌, ◌<◌}
use native.Mathlib.Nat.{eq-or-lt_of_le}
use native.Mathlib.Decide.{ℕ_discrete}
use native.Mathlib.Omega.{arith}
use mathlib.Core.Path.{◌≡◌, refl, sym, ◌∙◌}
use mathlib.Core.Logic.{inl, ⊎_elim}
use mathlib.Core.List.{List}
use lib.ListN.{length, set, replicate, length-set}
use lib.Seq.{get_or-set_same, get_or-set_other}
use Rattle.std.proofs.lemmas.List.{length-take, length-drop, length-replicate, get_or-take, get_or-drop, get_or-replicate, ext_get_or}
use Rattle.meaning.specs.Limits.{most_tags}
use Rattle.meaning.specs.Bytes.{at}
use Rattle.tournament.specs.Tournament.{past, nodes, leaves, Put, Bracket, Least}
use Rattle.tournament.proofs.Playing.{root_least, root_leaf}

-- As many numbers as players.
pub leaves_long : (m : ℕ) (xs : List ℕ) → m ≤ most_tags → length xs ≡ nodes → length (leaves m xs) ≡ m
leaves_long m xs few long = simp (length-take, length-drop) (omega arith)

-- Player j's number stands at node m + j.
pub leaf_at : (m : ℕ) (xs : List ℕ) (j : ℕ) → j < m → at (leaves m xs) j ≡ at xs (m + j)
leaf_at m xs j l = get_or-take m _ j 0 l ∙ get_or-drop m xs j 0

-- Where all nodes are one number, each holds the lesser of its two.
pub blank_bracket : (m v : ℕ) → m ≤ most_tags → Bracket m (replicate nodes v)
blank_bracket m v few = record {
  few = few;
  tree = record {
    long = length-replicate {A = ℕ} nodes v;
    node = λ i p l.
        let same : (j : ℕ) → j < nodes → at (replicate nodes v) j ≡ v = λ j k. get_or-replicate {A = ℕ} nodes j v 0 k in
        rw (same i (omega arith), same (2 * i) (omega arith), same (2 * i + 1) (omega arith)) (record { left = omega arith; right = omega arith; one = inl refl });
  };
}

-- Where they are 0, so is each number that plays.
pub blank_leaves : (m : ℕ) → m ≤ most_tags → leaves m (replicate nodes 0) ≡ replicate m 0
blank_leaves m few = ext_get_or 0 _ _ (long ∙ sym (length-replicate {A = ℕ} m 0)) (λ j l. let k : j < m = omega (arith, long) in leaf_at m (replicate nodes 0) j k ∙ get_or-replicate {A = ℕ} nodes (m + j) 0 0 (omega arith) ∙ sym (get_or-replicate {A = ℕ} m j 0 0 k))
  where
    long : length (leaves m (replicate nodes 0)) ≡ m
    long = leaves_long m (replicate nodes 0) few (length-replicate {A = ℕ} nodes 0)

-- One number is another now.
pub leaves_put : (m leaf key : ℕ) (xs ys : List ℕ) → Bracket m xs → leaf < m → Put m leaf key xs ys → leaves m ys ≡ set (leaves m xs) leaf key
leaves_put m leaf key xs ys w l put = ext_get_or 0 _ _ (leaves_long m ys w.few put.tree.long ∙ sym same) (λ j k. each j (omega (arith, leaves_long m ys w.few put.tree.long)))
  where
    long : length (leaves m xs) ≡ m
    long = leaves_long m xs w.few w.tree.long

    same : length (set (leaves m xs) leaf key) ≡ m
    same = length-set (leaves m xs) leaf key ∙ long

    each : (j : ℕ) → j < m → at (leaves m ys) j ≡ at (set (leaves m xs) leaf key) j
    each j k = leaf_at m ys j k ∙ go (ℕ_discrete j leaf)
      where
        go : Dec (j ≡ leaf) → at ys (m + j) ≡ at (set (leaves m xs) leaf key) j
        go (yes e) = rw (e, put.here, get_or-set_same (leaves m xs) leaf key 0 (omega (arith, long))) refl
        go (no d) = put.other j k d ∙ sym (get_or-set_other (leaves m xs) leaf j key 0 d ∙ leaf_at m xs j k)

-- The root is the least of the numbers that play; where none plays, what stands for none is.
pub least_of : (m : ℕ) (xs : List ℕ) (v : ℕ) → Bracket m xs → (0 < m → v ≡ at xs 1) → (m ≡ 0 → v ≡ past) → Least (leaves m xs) v
least_of m xs v w root none = record {
  below = λ j l. let k : j < m = omega (arith, long) in omega (arith, root (omega arith), root_least m xs w.tree j k, leaf_at m xs j k);
  one = λ some. let k : 0 < m = omega (arith, long) in go k (root_leaf m xs w.tree k);
  none = λ e. none (omega (arith, long));
}
  where
    long : length (leaves m xs) ≡ m
    long = leaves_long m xs w.few w.tree.long

    go : 0 < m → (j : ℕ) × (j < m) × (at xs (m + j) ≡ at xs 1) → (j : ℕ) × (j < length (leaves m xs)) × (at (leaves m xs) j ≡ v)
    go k (j, l, e) = (j, omega (arith, long), leaf_at m xs j l ∙ e ∙ sym (root k))

-- The least is one.
pub least_one : (xs : List ℕ) (v w : ℕ) → Least xs v → Least xs w → v ≡ w
least_one xs v w a b = ⊎_elim (λ e. a.none (sym e) ∙ sym (b.none (sym e))) (λ some. go (a.one some) (b.one some)) (eq-or-lt_of_le {n = 0} {m = length xs} (omega arith))
  where
    go : (j : ℕ) × (j < length xs) × (at xs j ≡ v) → (j : ℕ) × (j < length xs) × (at xs j ≡ w) → v ≡ w
    go (j, l, e) (k, m, f) = omega (arith, e, f, a.below k m, b.below j l)
