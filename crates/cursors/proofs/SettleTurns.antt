-- The turns of `settle`'s loop: what each way round it keeps, over the lent arrays of a plan.
use Prim.Native.Nat.{ℕ, suc, ◌+◌, ◌*◌, ◌-◌, ◌≤◌, ◌<◌}
use native.Mathlib.Nat.{le_antisymm}
use native.Mathlib.Omega.{arith}
use mathlib.Core.Path.{◌≡◌, refl, sym, ap, subst, ◌∙◌}
use mathlib.Core.List.{List}
use Rattle.std.proofs.Common.{Some, None}
use lib.ListN.{length, set, length-set}
use Rattle.meaning.specs.declared.Body.{Body}
use Rattle.meaning.specs.Limits.{most_labels}
use Rattle.meaning.specs.Day.{label_at}
use Rattle.meaning.specs.Notation.{Hook, nothing, from}
use Rattle.meaning.specs.Bytes.{at}
use Rattle.meaning.specs.Picks.{Asked}
use Rattle.meaning.proofs.Decide.{at_least}
use Rattle.label.specs.Started.{Ascends, Started}
use Rattle.cursors.specs.declared.Plan.{Plan}
use Rattle.cursors.specs.Plan.{hook_of, planned_step, plan_of, Planned}
use Rattle.cursors.specs.Cursors.{LeastPick, NoPick, Touches, Unbroken}
use Rattle.cursors.proofs.Moves.{Settling, settle_on, jump, back, settled, begin, none_past, remaining, remaining_falls}

-- What hangs from nothing hangs from no step.
not_both : (h : Hook) (u : ℕ) → h ≡ nothing → h ≡ from u → ⊥
not_both h u e f = let z : ◌≡◌ {A = ℕ} 0 1 = cc in omega arith

-- A step hangs from one step at most.
one_hook : (h : Hook) (u v : ℕ) → h ≡ from u → h ≡ from v → u ≡ v
one_hook h u v e f = cc

-- The loop's invariant: the cursors xs, of which those below step s are settled.
pub record SettleTurn (a : Asked) (low : ℕ → ℕ) (xs : List ℕ) (s : ℕ) : Type 0 where
  pub len : length xs ≡ 32
  pub s_le : s ≤ a.steps
  pub st : Settling a low xs s

-- What falls with each turn: what is left of the lists, and then the steps to come.
unfoldable pub μ : Asked → List ℕ → ℕ → ℕ
μ a xs s = 33 * remaining a.count xs a.steps + (32 - s)

module _ {b : List ℕ} {p : Plan} (planned : Planned b p) where
  abbrev a : Asked
  a = plan_of b p

  -- The list of a step.
  abbrev list : ℕ → Body
  list s = (planned_step p s).list

  pub turn_begin : (xs : List ℕ) (s : ℕ) → length xs ≡ 32 → s ≤ p.count → Unbroken a (at xs) s → SettleTurn a (at xs) xs s
  unfolding plan_of
  turn_begin xs s l sk h = record { len = l; s_le = sk; st = begin a planned.fit (at xs) xs s (λ j. refl) h }

  pub turn_end : {low : ℕ → ℕ} {xs : List ℕ} {s : ℕ} → SettleTurn a low xs s → p.count ≤ s → LeastPick a low (at xs)
  unfolding plan_of
  turn_end {low} {xs} w l = settled a planned.fit low xs (subst (λ (n : ℕ). Settling a low xs n) (le_antisymm w.s_le l) w.st)

  module _ {low : ℕ → ℕ} {xs : List ℕ} {s : ℕ} (w : SettleTurn a low xs s) (sk : s < p.count) where
    pub turn_none : (list s).count ≤ at xs s → NoPick a low
    unfolding plan_of
    turn_none l = none_past a planned.fit low xs s w.st sk l

    -- The cursor of step s is in range.
    module _ (room : at xs s < (list s).count) where
      pub on_less : μ a xs (s + 1) < μ a xs s
      unfolding plan_of μ
      on_less = omega (arith, planned.few)

      -- The step hangs from nothing.
      pub turn_free : (planned_step p s).hangs ≡ None → SettleTurn a low xs (s + 1)
      unfolding plan_of
      turn_free e = record {
        len = w.len;
        s_le = omega arith;
        st = settle_on a planned.fit low xs s w.st room (λ u f. absurd (not_both (hook_of (planned_step p s).hangs) u (ap hook_of e) f));
      }

      -- The step hangs from step u.
      module _ {u v : ℕ} (up : (planned_step p s).hangs ≡ Some v) (u_is : u ≡ v) where
        hook : hook_of (planned_step p s).hangs ≡ from u
        hook = ap hook_of up ∙ ap from (sym u_is)

        pub up_lt : u < s
        unfolding plan_of
        up_lt = planned.fit.upward s u sk hook

        -- Step u is before step s, and so below 32.
        pub up_few : u < 32
        up_few = omega (arith, up_lt, planned.few)

        pub above_room : at xs u < (list u).count
        unfolding plan_of
        above_room = w.st.held.ranged u up_lt

        pub above_held : (list u).offset + 8 * at xs u + 8 ≤ length b
        above_held = omega (arith, planned.held u (omega (arith, up_lt)), above_room)

        pub ascends : Ascends b (list s).offset (list s).count
        unfolding plan_of
        ascends i j = planned.fit.ascending s i j

        -- The cursor above is small.
        pub above_small : at xs u < most_labels
        above_small = omega (arith, above_room, planned.small u (omega (arith, up_lt)))

        -- Less is left when the step's own cursor is raised.
        pub jump_less : (v : ℕ) → at xs s < v → μ a (set xs s v) s < μ a xs s
        unfolding plan_of μ
        jump_less v up = omega (arith, remaining_falls (λ t. (list t).count) xs p.count s v sk (omega (arith, w.len, planned.few)) up room)

        -- The record starts at or before the record above it, and r is the first that starts later.
        module _ {r : ℕ} (early : (label_at b (list s).offset (at xs s)).start ≤ (label_at b (list u).offset (at xs u)).start)
            (found : Started b (list s).offset (list s).count (label_at b (list u).offset (at xs u)).start r) where
          pub raised : at xs s < r
          raised = at_least {P = λ j. j ≡ r} (suc (at xs s)) (λ j l e. omega (arith, found.rest (at xs s) (omega arith) room)) r refl

          -- The cursor goes on to v, and so past no record that starts later.
          pub turn_jump : (v : ℕ) → at xs s < v → v ≤ r → SettleTurn a low (set xs s v) s
          unfolding plan_of
          turn_jump v up most = record {
            len = simp length-set w.len;
            s_le = w.s_le;
            st = jump a planned.fit low xs s u v w.st sk hook (omega (arith, w.len, planned.few)) up (λ i l m. found.first i (omega arith));
          }

        -- The record starts after the end of the record above it, whose cursor goes to the next record, v. The walk falls back to that
        -- step, or to a step before it.
        pub turn_back : (v t : ℕ) → v ≡ at xs u + 1 → t ≤ u → (label_at b (list u).offset (at xs u)).end < (label_at b (list s).offset (at xs s)).start
            → SettleTurn a low (set xs u v) t
        unfolding plan_of
        turn_back v t next tu late = record {
          len = simp length-set w.len;
          s_le = omega (arith, up_lt);
          st = back a planned.fit low xs s u v t w.st sk hook (omega (arith, w.len, planned.few)) next tu late;
        }

        -- Less is left when that cursor is raised, wherever the walk goes on.
        pub back_less : (v t : ℕ) → at xs u < v → μ a (set xs u v) t < μ a xs s
        unfolding plan_of μ
        back_less v t up = omega (arith, remaining_falls (λ t. (list t).count) xs p.count u v (omega (arith, up_lt)) (omega (arith, up_lt, w.len, planned.few)) up above_room)

        -- It starts within that record.
        pub turn_on : (label_at b (list u).offset (at xs u)).start < (label_at b (list s).offset (at xs s)).start
            → (label_at b (list s).offset (at xs s)).start ≤ (label_at b (list u).offset (at xs u)).end → SettleTurn a low xs (s + 1)
        unfolding plan_of
        turn_on after reached = record {
          len = w.len;
          s_le = omega arith;
          st = settle_on a planned.fit low xs s w.st room touch;
        }
          where
            touch : (v : ℕ) → hook_of (planned_step p s).hangs ≡ from v → Touches a (at xs) s v
            touch v f = subst (λ (n : ℕ). Touches a (at xs) s n) (one_hook (hook_of (planned_step p s).hangs) u v hook f) (record { after = after; reached = reached })

-- The returned step of a plan is one of its steps.
pub ret_of : {b : List ℕ} {p : Plan} → Planned b p → p.returned < p.count
unfolding plan_of
ret_of planned = planned.fit.returned_lt

-- And so it is one of 32.
pub ret_few : {b : List ℕ} {p : Plan} → Planned b p → p.returned < 32
ret_few planned = omega (arith, ret_of planned, planned.few)

-- What is at most the number of a plan's steps is at most its count.
pub steps_of : (b : List ℕ) (p : Plan) {n : ℕ} → n ≤ (plan_of b p).steps → n ≤ p.count
unfolding plan_of
steps_of b p l = l
