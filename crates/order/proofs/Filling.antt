-- The lists' places in the index, their keys, and how a walk begins.
use Prim.Native.Nat.{ℕ, ◌+◌, ◌*◌, ◌≤◌, ◌<◌}
use native.Mathlib.Nat.{eq-or-lt_of_le, ne_of_lt}
use native.Mathlib.Omega.{arith}
use mathlib.Core.Path.{◌≡◌, refl, ap, ◌∙◌}
use mathlib.Core.Logic.{◌⊎◌, inl, inr}
use mathlib.Core.List.{List}
use lib.ListN.{length, set, length-set}
use lib.Seq.{get_or-set_same, get_or-set_other}
use Rattle.meaning.specs.Limits.{most_tags}
use Rattle.meaning.specs.Bytes.{u32_at}
use Rattle.meaning.specs.Labels.{Lists}
use Rattle.meaning.specs.Day.{tags, offset, label_at, lists_of}
use Rattle.meaning.specs.Bytes.{at}
use Rattle.tournament.specs.Tournament.{numbers, past}
use Rattle.contents.specs.Parts.{Placed}
use Rattle.order.specs.Walk.{Ascend}
use Rattle.order.specs.Keys.{Key}
use Rattle.order.specs.Standing.{position_at, cursor, AtLabel, Filled, Standing, Begun}
use Rattle.order.proofs.WalkLaws.{none_seen}

-- The label that begins at a place is the list's at that position.
pub label_here : (b : List ℕ) (r place : ℕ) → AtLabel b r place → label_at b place 0 ≡ (lists_of b).label r (position_at b r place)
label_here b r place h =
    let e : place + 8 * 0 ≡ offset b r + 8 * position_at b r place = omega (arith, h.begins) in
    ap (λ (q : ℕ). record { start = u32_at b q; end = u32_at b (q + 4) }) e

-- The key of a list that has a label there.
pub key_some : (t : Lists) (r p s : ℕ) → s ≡ (t.label r p).start → p < t.count r → s < numbers → r < most_tags → Key t r p (most_tags * s + r)
key_some t r p s e l f g = record { some = λ _. omega arith; small = λ _. omega arith; none = λ h. absurd (omega arith) }

-- The key of a list that has none there.
pub key_none : (t : Lists) (r p : ℕ) → t.count r ≤ p → Key t r p past
key_none t r p l = record { some = λ h. absurd (omega arith); small = λ h. absurd (omega arith); none = λ _. refl }

-- Where a list's body begins, its first label is next.
pub at_first : (b : List ℕ) (r place : ℕ) → place ≡ offset b r → AtLabel b r place × (position_at b r place ≡ 0)
at_first b r place e = (record { begins = omega arith; within = omega arith }, omega arith)

-- List r gets its place.
pub filling_on : (b : List ℕ) (r : ℕ) (places : List ℕ) → Filled b r places → r < most_tags → (place : ℕ) → place ≡ offset b r → Filled b (r + 1) (set places r place)
filling_on b r places w l place e = record { long = simp length-set w.long; place = λ j h. there j (eq-or-lt_of_le {n = j} {m = r} (omega arith)) }
  where
    there : (j : ℕ) → (j ≡ r) ⊎ (j < r) → at (set places r place) j ≡ offset b j
    there j (inl f) = rw f (get_or-set_same places r place 0 (omega (arith, w.long)) ∙ e)
    there j (inr h) = get_or-set_other places r j place 0 (ne_of_lt h) ∙ w.place j h

-- When all lists have theirs, the walk stands at the first labels.
module _ (b places : List ℕ) (placed : Placed b) (ascend : Ascend (lists_of b)) (filled : Filled b (tags b) places) where
  -- Nothing was handed out.
  pub filled_begun : Begun b places
  filled_begun r l = (at_first b r (at places r) (filled.place r l)).1

  -- And where the keys are those of the first labels, it is a walk.
  pub filled_standing : (keys : List ℕ) → length keys ≡ tags b → ((r : ℕ) → r < tags b → Key (lists_of b) r (position_at b r (offset b r)) (at keys r)) → Standing b places keys
  filled_standing keys many key = record {
    placed = placed;
    ascend = ascend;
    cursors = record { long = filled.long; each = λ r l. (at_first b r (at places r) (filled.place r l)).0 };
    sorted = λ x y s v. absurd (none_seen (lists_of b) (cursor b places) filled_begun x s);
    keyed = record { many = many; key = λ r l. rw (filled.place r l) (key r l) };
  }
