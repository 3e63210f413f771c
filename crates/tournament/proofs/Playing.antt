-- The tournament: its root is the least of its numbers, and after one of them changed only the nodes above it are played again.
use Prim.Native.Nat.{ℕ, zero, suc, ◌+◌, ◌*◌, ◌/◌, ◌%◌, ◌-◌, ◌≤◌, ◌<◌, min}
use native.Mathlib.Nat.{eq-or-lt_of_le, lt_of_not-le}
use native.Mathlib.Decide.{dec_le, ℕ_discrete}
use native.Mathlib.Omega.{arith}
use mathlib.Core.Path.{◌≡◌, refl, sym, ap, subst, ◌∙◌}
use mathlib.Core.Logic.{◌⊎◌, inl, inr, ◌≢◌, ⊎_elim}
use mathlib.Core.List.{List}
use lib.Bits.{differ, bit_xor, xor_step, xor_zero_r}
use lib.ListN.{length, set, length-set}
use lib.Seq.{get_or-set_same, get_or-set_other}
use Rattle.meaning.specs.Limits.{most_tags}
use Rattle.meaning.specs.Bytes.{at}
use Rattle.tournament.specs.Tournament.{nodes, Lesser, Tree, Put}

-- A number is twice its half, or one more.
halves : (n : ℕ) → (n ≡ 2 * (n / 2)) ⊎ (n ≡ 2 * (n / 2) + 1)
halves n = go (dec_le n (2 * (n / 2)))
  where
    go : Dec (n ≤ 2 * (n / 2)) → (n ≡ 2 * (n / 2)) ⊎ (n ≡ 2 * (n / 2) + 1)
    go (yes l) = inl (omega arith)
    go (no d) = let l = lt_of_not-le d in inr (omega arith)

-- The last bit turned, with the bit.
flip : (d : ℕ) → d < 2 → differ d 1 + d ≡ 1
flip zero l = refl
flip (suc zero) l = refl
flip (suc (suc d)) l = absurd (omega arith)

-- Twice the half and the last bit turned.
beside_sum : (i x y d : ℕ) → x ≡ y * 2 + d → y ≡ i / 2 → d + i % 2 ≡ 1 → x + 2 * (i % 2) ≡ i + 1
beside_sum i x y d e f g = omega arith

-- With its last bit turned an even number is one more, and an odd one is one less.
pub beside_is : (i : ℕ) → bit_xor i 1 + 2 * (i % 2) ≡ i + 1
beside_is i = beside_sum i (bit_xor i 1) (bit_xor (i / 2) 0) (differ (i % 2) 1) (xor_step i 1) (xor_zero_r (i / 2)) (flip (i % 2) (omega arith))

-- The node beside one that is below 2m is below it too.
pub beside_in : (m i j : ℕ) → i < 2 * m → j + 2 * (i % 2) ≡ i + 1 → j < 2 * m
beside_in m i j l e = let h : i / 2 < m = omega arith in omega arith

module _ (m : ℕ) (xs : List ℕ) (tree : Tree m xs) where
  -- The root is at most each node, by induction on the node's number.
  least_fuel : (fuel n : ℕ) → n ≤ fuel → 1 ≤ n → n < m + m → at xs 1 ≤ at xs n
  least_fuel zero n f l h = absurd (omega arith)
  least_fuel (suc fuel) n f l h = go (eq-or-lt_of_le l) (least_fuel fuel (n / 2))
    where
      go : (1 ≡ n) ⊎ (1 < n) → (n / 2 ≤ fuel → 1 ≤ n / 2 → n / 2 < m + m → at xs 1 ≤ at xs (n / 2)) → at xs 1 ≤ at xs n
      go (inl e) ih = omega (arith, ap (at xs) e)
      go (inr g) ih =
          let up = ih (omega arith) (omega arith) (omega arith) in
          let won = tree.node (n / 2) (omega arith) (omega arith) in
          ⊎_elim (λ e. omega (arith, up, won.left, ap (at xs) e)) (λ e. omega (arith, up, won.right, ap (at xs) e)) (halves n)

  -- The root is at most each number that plays.
  pub root_least : (j : ℕ) → j < m → at xs 1 ≤ at xs (m + j)
  root_least j l = least_fuel (m + j) (m + j) (omega arith) (omega arith) (omega arith)

  -- Below each node stands a number that plays and equals it, by induction on what is left of the places.
  down : (fuel n : ℕ) → m + m ≤ n + fuel → 1 ≤ n → n < m + m → (j : ℕ) × (j < m) × (at xs (m + j) ≡ at xs n)
  down zero n f l h = absurd (omega arith)
  down (suc fuel) n f l h = go (dec_le m n) (down fuel (2 * n)) (down fuel (2 * n + 1))
    where
      Leaf : ℕ → Type 0
      Leaf v = (j : ℕ) × (j < m) × (at xs (m + j) ≡ v)

      go : Dec (m ≤ n) → (m + m ≤ 2 * n + fuel → 1 ≤ 2 * n → 2 * n < m + m → Leaf (at xs (2 * n))) → (m + m ≤ 2 * n + 1 + fuel → 1 ≤ 2 * n + 1 → 2 * n + 1 < m + m → Leaf (at xs (2 * n + 1))) → Leaf (at xs n)
      go (yes k) a b = let e : m + (n - m) ≡ n = omega arith in (n - m, omega arith, ap (at xs) e)
      go (no d) a b =
          let k : n < m = lt_of_not-le d in
          ⊎_elim (λ e. let p = a (omega arith) (omega arith) (omega arith) in (p.0, p.1, p.2 ∙ sym e)) (λ e. let p = b (omega arith) (omega arith) (omega arith) in (p.0, p.1, p.2 ∙ sym e)) (tree.node n l k).one

  -- The root is one of the numbers that play.
  pub root_leaf : 1 ≤ m → (j : ℕ) × (j < m) × (at xs (m + j) ≡ at xs 1)
  root_leaf l = down (m + m) 1 (omega arith) (omega arith) (omega arith)

-- Every node but i holds the lesser of its two.
pub Played : ℕ → ℕ → List ℕ → Type 0
Played m i xs = (k : ℕ) → 1 ≤ k → k < m → k ≢ i → Lesser (at xs k) (at xs (2 * k)) (at xs (2 * k + 1))

-- A store at i leaves the nodes that are neither i nor right above it.
keep : (xs : List ℕ) (i v k : ℕ) → k ≢ i → 1 ≤ k → k ≢ i / 2 → Lesser (at xs k) (at xs (2 * k)) (at xs (2 * k + 1)) → Lesser (at (set xs i v) k) (at (set xs i v) (2 * k)) (at (set xs i v) (2 * k + 1))
keep xs i v k d p h w =
    rw (get_or-set_other xs i k v 0 d, get_or-set_other xs i (2 * k) v 0 (λ e. h (omega arith)), get_or-set_other xs i (2 * k + 1) v 0 (λ e. h (omega arith))) w

-- When a number that plays changes, only the node right above it is to be played.
played_leaf : (m leaf key : ℕ) (xs : List ℕ) → Tree m xs → Played m ((m + leaf) / 2) (set xs (m + leaf) key)
unfolding Played
played_leaf m leaf key xs tree k p l h = keep xs (m + leaf) key k (λ e. omega arith) p h (tree.node k p l)

-- When node i is played, only the one right above it is left.
played_node : (m i v : ℕ) (xs : List ℕ) → 0 < i → i < length xs → Played m i xs → Lesser v (at xs (2 * i)) (at xs (2 * i + 1)) → Played m (i / 2) (set xs i v)
unfolding Played
played_node m i v xs pos len w won k p l h = go (ℕ_discrete k i)
  where
    go : Dec (k ≡ i) → Lesser (at (set xs i v) k) (at (set xs i v) (2 * k)) (at (set xs i v) (2 * k + 1))
    go (no d) = keep xs i v k d p h (w k p l d)
    go (yes e) = rw (e, get_or-set_same xs i v 0 len, get_or-set_other xs i (2 * i) v 0 (λ f. omega arith), get_or-set_other xs i (2 * i + 1) v 0 (λ f. omega arith)) won

-- When only place 0 is left, which is no node, every node is played.
played_all : (m : ℕ) (xs : List ℕ) → length xs ≡ nodes → Played m 0 xs → Tree m xs
unfolding Played
played_all m xs len w = record { long = len; node = λ i p l. w i p l (λ e. omega arith) }

-- The lesser of two numbers is their minimum.
pub lesser_min : (a b : ℕ) → Lesser (min a b) a b
lesser_min a b = record { left = omega arith; right = omega arith; one = go (dec_le a b) }
  where
    go : Dec (a ≤ b) → (min a b ≡ a) ⊎ (min a b ≡ b)
    go (yes l) = inl (omega arith)
    go (no d) = let l = lt_of_not-le d in inr (omega arith)

-- Which of two numbers stands first does not matter to which is the lesser.
lesser_sym : (v a b : ℕ) → Lesser v a b → Lesser v b a
lesser_sym v a b w = record { left = w.right; right = w.left; one = ⊎_elim inr inl w.one }

-- The lesser of a node's number and of that beside it is the lesser of the two below the node above them.
lesser_above : (ys : List ℕ) (i j v : ℕ) → j + 2 * (i % 2) ≡ i + 1 → Lesser v (at ys i) (at ys j) → Lesser v (at ys (2 * (i / 2))) (at ys (2 * (i / 2) + 1))
lesser_above ys i j v e w = ⊎_elim first second (halves i)
  where
    Won : ℕ → ℕ → Type 0
    Won a b = Lesser v (at ys a) (at ys b)

    first : i ≡ 2 * (i / 2) → Won (2 * (i / 2)) (2 * (i / 2) + 1)
    first f = let g : j ≡ 2 * (i / 2) + 1 = omega arith in subst (λ (a : ℕ). Won a (2 * (i / 2) + 1)) f (subst (λ (b : ℕ). Won i b) g w)

    second : i ≡ 2 * (i / 2) + 1 → Won (2 * (i / 2)) (2 * (i / 2) + 1)
    second f = let g : j ≡ 2 * (i / 2) = omega arith in subst (λ (a : ℕ). Won a (2 * (i / 2) + 1)) g (subst (λ (b : ℕ). Won j b) f (lesser_sym v (at ys i) (at ys j) w))

-- The loop of `put`: number `leaf` is `key`, the others are those of xs, node i holds `best`, and of the nodes only the one above i is to be played.
pub record Playing (m leaf key : ℕ) (xs : List ℕ) (i best : ℕ) (ys : List ℕ) : Type 0 where
  pub long : length ys ≡ nodes
  pub small : m ≤ most_tags
  pub i_pos : 0 < i
  pub i_lt : i < 2 * m
  pub best_is : best ≡ at ys i
  pub played : Played m (i / 2) ys
  pub here : at ys (m + leaf) ≡ key
  pub other : (j : ℕ) → j < m → j ≢ leaf → at ys (m + j) ≡ at xs (m + j)

-- The key is stored.
pub playing_begin : (m leaf key : ℕ) (xs : List ℕ) → m ≤ most_tags → leaf < m → Tree m xs → Playing m leaf key (set xs (m + leaf) key) (m + leaf) key (set xs (m + leaf) key)
playing_begin m leaf key xs m-le l tree = record {
  long = simp length-set tree.long;
  small = m-le;
  i_pos = omega arith;
  i_lt = omega arith;
  best_is = sym is;
  played = played_leaf m leaf key xs tree;
  here = is;
  other = λ j k d. refl;
}
  where
    is : at (set xs (m + leaf) key) (m + leaf) ≡ key
    is = get_or-set_same xs (m + leaf) key 0 (omega (arith, tree.long))

-- The node above i is played: `best` against the number beside it.
pub playing_on : (m leaf key : ℕ) (xs : List ℕ) (i best v j : ℕ) (ys : List ℕ) → Playing m leaf key xs i best ys → 1 < i → j + 2 * (i % 2) ≡ i + 1 → Lesser v best (at ys j) → Playing m leaf key xs (i / 2) v (set ys (i / 2) v)
playing_on m leaf key xs i best v j ys w more beside won = record {
  long = simp length-set w.long;
  small = w.small;
  i_pos = above;
  i_lt = omega (arith, below);
  best_is = sym (get_or-set_same ys (i / 2) v 0 room);
  played = played_node m (i / 2) v ys above room w.played (lesser_above ys i j v beside (subst (λ (a : ℕ). Lesser v a (at ys j)) w.best_is won));
  here = get_or-set_other ys (i / 2) (m + leaf) v 0 (λ e. omega (arith, below)) ∙ w.here;
  other = λ k l d. get_or-set_other ys (i / 2) (m + k) v 0 (λ e. omega (arith, below)) ∙ w.other k l d;
}
  where
    above : 0 < i / 2
    above = omega arith

    below : i / 2 < m
    below = omega (arith, w.i_lt)

    room : i / 2 < length ys
    room = omega (arith, below, w.long, w.small)

-- The root is reached: no node is left, and `best` is the root's number.
pub playing_end : (m leaf key : ℕ) (xs : List ℕ) (i best : ℕ) (ys : List ℕ) → Playing m leaf key (set xs (m + leaf) key) i best ys → i ≤ 1 → Put m leaf key xs ys × (best ≡ at ys 1)
playing_end m leaf key xs i best ys w z = (
  record {
    tree = played_all m ys w.long (subst (λ (k : ℕ). Played m k ys) none w.played);
    here = w.here;
    other = λ j k d. w.other j k d ∙ get_or-set_other xs (m + leaf) (m + j) key 0 (λ e. d (omega arith));
  },
  w.best_is ∙ ap (at ys) (omega (arith, w.i_pos)),
)
  where
    none : i / 2 ≡ 0
    none = omega arith
