-- One label is handed out: its list's place moves on by a label, and its next key is put into the tournament.
use Prim.Native.Nat.{ℕ, suc, ◌+◌, ◌<◌}
use native.Mathlib.Decide.{ℕ_discrete}
use native.Mathlib.Omega.{arith}
use mathlib.Core.Path.{◌≡◌, ap, ◌∙◌}
use mathlib.Core.Logic.{◌≢◌}
use mathlib.Core.List.{List}
use lib.ListN.{set, length-set}
use lib.Seq.{get_or-set_same, get_or-set_other}
use Rattle.meaning.specs.Day.{tags, count, lists_of}
use Rattle.meaning.specs.Bytes.{at}
use Rattle.order.specs.Keys.{Key}
use Rattle.order.specs.Walk.{Comes, Moved}
use Rattle.order.specs.Standing.{position_at, cursor, AtLabel, Standing}
use Rattle.order.proofs.WalkLaws.{sorted_on}

-- A list that has a label at its place has the next place a label on.
pub at_next : (b : List ℕ) (r place : ℕ) → AtLabel b r place → position_at b r place < count b r → AtLabel b r (place + 8) × (position_at b r (place + 8) ≡ suc (position_at b r place))
at_next b r place h l = (record { begins = omega (arith, h.begins); within = omega (arith, h.begins) }, omega (arith, h.begins))

module _ (b places keys : List ℕ) (list : ℕ) (w : Standing b places keys) (comes : Comes (lists_of b) (cursor b places) list) where
  -- The list is one of the day's.
  pub list_lt : list < tags b
  list_lt = comes.waits.holds.list_lt

  -- Its place is a label's.
  pub here : AtLabel b list (at places list)
  here = w.cursors.each list list_lt

  -- It has a label there.
  pub room : position_at b list (at places list) < count b list
  room = comes.waits.holds.at_lt

  -- The place moves on.
  abbrev places' : List ℕ
  places' = set places list (at places list + 8)

  -- It is a place of the list again.
  next : AtLabel b list (at places list + 8) × (position_at b list (at places list + 8) ≡ suc (position_at b list (at places list)))
  next = at_next b list (at places list) here room

  same : at places' list ≡ at places list + 8
  same = get_or-set_same places list (at places list + 8) 0 (omega (arith, w.cursors.long, w.placed.few, list_lt))

  other : (r : ℕ) → r ≢ list → at places' r ≡ at places r
  other r d = get_or-set_other places list r (at places list + 8) 0 d

  -- So its cursor moves on, and the others stay.
  pub passed : Moved (cursor b places) (cursor b places') list
  passed = record { here = ap (position_at b list) same ∙ next.1; other = λ r d. ap (position_at b r) (other r d) }

  -- The walk has handed that label out.
  pub passed_standing : (key : ℕ) → Key (lists_of b) list (position_at b list (at places list + 8)) key → Standing b places' (set keys list key)
  passed_standing key new = record {
    placed = w.placed;
    ascend = w.ascend;
    cursors = record { long = simp length-set w.cursors.long; each = λ r l. at_place r l (ℕ_discrete r list) };
    sorted = sorted_on (lists_of b) (cursor b places) (cursor b places') list passed comes w.sorted;
    keyed = record { many = simp length-set w.keyed.many; key = λ r l. keyed r l (ℕ_discrete r list) };
  }
    where
      at_place : (r : ℕ) → r < tags b → Dec (r ≡ list) → AtLabel b r (at places' r)
      at_place r l (yes e) = rw (e, same) next.0
      at_place r l (no d) = rw (other r d) (w.cursors.each r l)

      keyed : (r : ℕ) → r < tags b → Dec (r ≡ list) → Key (lists_of b) r (cursor b places' r) (at (set keys list key) r)
      keyed r l (yes e) = rw (e, same, get_or-set_same keys list key 0 (omega (arith, w.keyed.many, list_lt))) new
      keyed r l (no d) = rw (other r d, get_or-set_other keys list r key 0 d) (w.keyed.key r l)
