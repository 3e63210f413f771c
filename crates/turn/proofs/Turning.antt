-- One turn of the sweep, over plain lists: each way that it can end.
use Prim.Native.Nat.{ℕ, suc, ◌-◌, ◌≤◌, ◌<◌}
use native.Mathlib.Nat.{eq-or-lt_of_le}
use native.Mathlib.Omega.{arith}
use mathlib.Core.Path.{◌≡◌, refl, sym, subst, ◌∙◌}
use mathlib.Core.Logic.{◌⊎◌, inl, inr, ◌≢◌, ⊎_elim}
use mathlib.Core.List.{List}
use lib.ListN.{length}
use Rattle.meaning.specs.Limits.{most_nested}
use Rattle.meaning.specs.Labels.{Lists, Place, Tangled}
use Rattle.meaning.proofs.Decide.{or_not, lt_decides, eq_decides, le_decides}
use Rattle.order.specs.Walk.{start_of, end_of, Sorted, next, Comes, Moved}
use Rattle.order.proofs.WalkLaws.{precedes_le}
use Rattle.lists.specs.Ordering.{Ordered}
use Rattle.open.specs.declared.Open.{Open}
use Rattle.open.specs.Entries.{entry}
use Rattle.turn.specs.Sweep.{innermost, Closes, Refuses}
use Rattle.turn.proofs.Stack.{LiesIn, Swept, Same, Held, Innermost, ClosesOne, OpensOne}
use Rattle.turn.proofs.Sweeping.{sweep_pop, sweep_clash}
use Rattle.turn.proofs.Opening.{sweep_deep, sweep_push}

-- Where all open records are those of their labels, the innermost is: it is the last of them.
pub innermost_held : (t : Lists) (stack : ℕ → Place) (records : List Open) → Held t stack records → Innermost t stack records
innermost_held t stack records held k e = let last : k ≡ length records - 1 = omega arith in subst (λ (i : ℕ). Same t (stack k) (entry records i)) last (held k (omega arith))

module _ (t : Lists) (law : Ordered t) (pos : ℕ → ℕ) (records : List Open) (stack : ℕ → Place) (swept : Swept t pos stack (length records)) (inner : Innermost t stack records) (sorted : Sorted t pos) (r start : ℕ) (comes : Comes t pos r) (start_is : start ≡ start_of t (next pos r)) where
  -- The innermost record ends before the next label starts: it is closed.
  pub turn_close : Closes records start → ClosesOne t pos stack (length records)
  turn_close c = record {
    some = c.0;
    swept = sweep_pop t pos stack (length records) r swept sorted comes (length records - 1) one (omega (arith, c.1, (inner (length records - 1) one).end, start_is));
  }
    where
      one : length records ≡ suc (length records - 1)
      one = omega (arith, c.0)

  module _ (end : ℕ) (end_is : end ≡ end_of t (next pos r)) (stays : Closes records start → ⊥) where
    -- A record that starts after the innermost and ends before it lies inside it.
    inside : (k : ℕ) → length records ≡ suc k → (innermost records).start ≢ start → end < (innermost records).end → LiesIn t (next pos r) (stack k)
    inside k e ne l = record {
      after = ⊎_elim (λ g. absurd (ne ((inner k e).start ∙ g ∙ sym (start_is)))) (λ g. g) (eq-or-lt_of_le (precedes_le t (stack k) (next pos r) (sorted (stack k) (next pos r) (swept.held k (omega arith)) comes.waits)));
      before = omega (arith, (inner k e).end, end_is);
    }

    -- The next label shares a number with the innermost record or crosses it.
    clash : 0 < length records → ((innermost records).start ≡ start) ⊎ ((innermost records).end ≤ end) → Tangled t
    clash some why =
        inl (sweep_clash t pos stack (length records) r swept sorted comes k (omega (arith, some)) (omega (arith, reach, is.end, start_is))
        (⊎_elim (λ f. inl (sym is.start ∙ f ∙ start_is)) (λ f. inr (omega (arith, is.end, end_is))) why))
      where
        k : ℕ
        k = length records - 1

        is : Same t (stack k) (innermost records)
        is = inner k (omega (arith, some))

        reach : start ≤ (innermost records).end
        reach = ⊎_elim (λ l. absurd (stays (some, l))) (λ n. omega arith) (or_not (lt_decides (innermost records).end start))

    -- A refused record is one of refusal 6.
    pub turn_refuse : Refuses records start end → Tangled t
    turn_refuse (some, why) = ⊎_elim (λ e. clash some (inl e)) (λ g. ⊎_elim (λ l. clash some (inr l)) full g) why
      where
        full : length records ≡ most_nested → Tangled t
        full e =
            ⊎_elim (λ q. clash some (inl q))
            (λ ne. ⊎_elim (λ l. clash some (inr l)) (λ n. inr (sweep_deep t law pos stack (length records) r swept sorted comes (λ k f. inside k f ne (omega arith)) (omega arith))) (or_not (le_decides (innermost records).end end)))
            (or_not (eq_decides (innermost records).start start))

    -- A record that is not refused is opened.
    pub turn_open : (Refuses records start end → ⊥) → length records < most_nested → (pos' : ℕ → ℕ) → Moved pos pos' r → OpensOne t pos pos' stack (length records) (record { start = start; end = end; list = r })
    turn_open free room pos' moved = record {
      list = r;
      holds = comes.waits.holds;
      moved = moved;
      room = room;
      same = record { start = start_is; end = end_is; list = refl };
      swept = sweep_push t law pos stack (length records) r swept sorted comes top_in pos' moved room;
    }
      where
        top_in : (k : ℕ) → length records ≡ suc k → LiesIn t (next pos r) (stack k)
        top_in k e = let some : 0 < length records = omega arith in inside k e (λ q. free (some, inl q)) (⊎_elim (λ l. absurd (free (some, inr (inl l)))) (λ n. omega arith) (or_not (le_decides (innermost records).end end)))

-- There is room where a record is not refused.
pub turn_room : (records : List Open) (start end : ℕ) → length records ≤ most_nested → (Refuses records start end → ⊥) → length records < most_nested
turn_room records start end l free = ⊎_elim (λ e. absurd (free (omega arith, inr (inr e)))) (λ h. h) (eq-or-lt_of_le l)
