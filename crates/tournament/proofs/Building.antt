-- All nodes of a tournament are played, from the last to the root.
use Prim.Native.Nat.{ℕ, ◌+◌, ◌*◌, ◌≤◌, ◌<◌}
use native.Mathlib.Decide.{ℕ_discrete}
use native.Mathlib.Omega.{arith}
use mathlib.Core.Path.{◌≡◌, refl, ◌∙◌}
use mathlib.Core.Logic.{◌≢◌}
use mathlib.Core.List.{List}
use lib.ListN.{length, set, length-set}
use lib.Seq.{get_or-set_same, get_or-set_other}
use Rattle.meaning.specs.Limits.{most_tags}
use Rattle.meaning.specs.Bytes.{at}
use Rattle.tournament.specs.Tournament.{nodes, Lesser, Tree, SameLeaves}

-- The loop of `play`: the nodes from i on hold the lesser of their two, and the numbers that play are those of xs.
pub record Built (m : ℕ) (xs : List ℕ) (i : ℕ) (ys : List ℕ) : Type 0 where
  pub i_le : i ≤ m
  pub long : length ys ≡ nodes
  pub node : (k : ℕ) → i ≤ k → 1 ≤ k → k < m → Lesser (at ys k) (at ys (2 * k)) (at ys (2 * k + 1))
  pub leaves : SameLeaves m xs ys

-- No node is played yet.
pub built_begin : (m : ℕ) (xs : List ℕ) → length xs ≡ nodes → Built m xs m xs
built_begin m xs long = record { i_le = omega arith; long = long; node = λ k a p l. absurd (omega arith); leaves = λ j l. refl }

-- Node i is played.
pub built_on : (m : ℕ) (xs : List ℕ) (i v : ℕ) (ys : List ℕ) → Built m xs (i + 1) ys → 1 ≤ i → m ≤ most_tags → Lesser v (at ys (2 * i)) (at ys (2 * i + 1)) → Built m xs i (set ys i v)
built_on m xs i v ys w p few won = record {
  i_le = omega (arith, w.i_le);
  long = simp length-set w.long;
  node = λ k a q l. go k a q l (ℕ_discrete k i);
  leaves = λ j l. get_or-set_other ys i (m + j) v 0 (λ e. omega (arith, w.i_le)) ∙ w.leaves j l;
}
  where
    room : i < length ys
    room = omega (arith, w.i_le, w.long)

    go : (k : ℕ) → i ≤ k → 1 ≤ k → k < m → Dec (k ≡ i) → Lesser (at (set ys i v) k) (at (set ys i v) (2 * k)) (at (set ys i v) (2 * k + 1))
    go k a q l (yes e) = rw (e, get_or-set_same ys i v 0 room, get_or-set_other ys i (2 * i) v 0 (λ f. omega arith), get_or-set_other ys i (2 * i + 1) v 0 (λ f. omega arith)) won
    go k a q l (no d) =
        rw (get_or-set_other ys i k v 0 d, get_or-set_other ys i (2 * k) v 0 (λ f. omega arith), get_or-set_other ys i (2 * k + 1) v 0 (λ f. omega arith)) (w.node k (above a d) q l)
      where
        above : i ≤ k → k ≢ i → i + 1 ≤ k
        above a d = omega (arith, a, d)

-- All are played.
pub built_end : (m : ℕ) (xs : List ℕ) (i : ℕ) (ys : List ℕ) → Built m xs i ys → i ≤ 1 → Tree m ys
built_end m xs i ys w z = record { long = w.long; node = λ k p l. w.node k (omega arith) p l }
