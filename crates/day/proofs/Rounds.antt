-- The turns of the sweep: how they begin, what holds between two of them of the walk, the table and what comes next, and what gets less.
use Prim.Native.Nat.{ℕ, suc, ◌+◌, ◌-◌, ◌*◌, ◌≤◌, ◌<◌}
use native.Mathlib.Nat.{ne_of_lt}
use native.Mathlib.Omega.{arith}
use mathlib.Core.Path.{◌≡◌, sym, subst}
use mathlib.Core.Logic.{◌⊎◌, inl, inr}
use mathlib.Core.List.{List}
use lib.ListN.{length, take, set, length-set}
use lib.Seq.{get_or-set_same, get_or-set_other}
use Rattle.std.proofs.lemmas.List.{length-take-le, get_or-take}
use Rattle.std.specs.Prelude.{Option}
use Rattle.meaning.specs.Limits.{most_nested}
use Rattle.meaning.specs.Labels.{Lists, Place}
use Rattle.meaning.specs.Day.{tags, lists_of}
use Rattle.order.specs.declared.Met.{Met}
use Rattle.order.specs.Walk.{Foretells}
use Rattle.order.specs.Standing.{cursor, Standing, Begun}
use Rattle.order.proofs.WalkLaws.{below_or, none_seen}
use Rattle.order.proofs.Left.{left, left_falls}
use Rattle.lists.specs.Ordering.{Ordered}
use Rattle.open.specs.declared.Open.{Open}
use Rattle.open.specs.Entries.{blank, entry}
use Rattle.turn.specs.declared.Turn.{Turn}
use Rattle.turn.specs.declared.Turn.TheVariants.{Closed, Opened}
use Rattle.turn.specs.Sweep.{Turned}
use Rattle.turn.proofs.Stack.{Swept, pushed, Same, ClosesOne, OpensOne, Judged}
use Rattle.turn.proofs.Sweeping.{pushed_below, pushed_top}
use Rattle.turn.proofs.Turning.{innermost_held}
use Rattle.turn.proofs.Judging.{turn_judged}

-- The open records stand in the table.
abbrev pub InTable : Lists → (ℕ → Place) → List Open → ℕ → Type 0
InTable t stack table depth = (k : ℕ) → k < depth → Same t (stack k) (entry table k)

-- The sweep between two turns, with the labels of the open records.
pub record AtTurn (b places keys : List ℕ) (coming : Option Met) (table : List Open) (depth : ℕ) (stack : ℕ → Place) : Type 0 where
  pub walk : Standing b places keys
  pub foretold : Foretells (lists_of b) (cursor b places) coming
  pub swept : Swept (lists_of b) (cursor b places) stack depth
  pub held : InTable (lists_of b) stack table depth

-- The loop's invariant: the sweep stands between two turns.
pub record Round (b places keys : List ℕ) (coming : Option Met) (table : List Open) (depth : ℕ) : Type 0 where
  pub shallow : depth ≤ most_nested
  pub long : length table ≡ most_nested
  pub stack : ℕ → Place
  pub turn : AtTurn b places keys coming table depth stack

-- The loop's measure: two for each label that is left and one for each open record.
abbrev pub weight : List ℕ → List ℕ → ℕ → ℕ
weight b places depth = 2 * left (lists_of b).count (cursor b places) (tags b) + depth

-- At the beginning nothing is seen.
sweep_begin : (t : Lists) (pos : ℕ → ℕ) (stack : ℕ → Place) → ((r : ℕ) → r < t.many → pos r ≡ 0) → Swept t pos stack 0
sweep_begin t pos stack z = record {
  fine = λ x y s w d. absurd (none_seen t pos z x s);
  shallow = λ c ch s. none_seen t pos z (c 0) (s 0 (omega arith));
  held = λ k l. absurd (omega arith);
  nest = λ j k l m. absurd (omega arith);
  closed = λ x y s w. absurd (none_seen t pos z x s);
}

-- The first turn begins.
pub round_begin : (b places keys : List ℕ) (coming : Option Met) (table : List Open) → Standing b places keys → Begun b places → Foretells (lists_of b) (cursor b places) coming → length table ≡ most_nested
    → Round b places keys coming table 0
round_begin b places keys coming table walk begun foretold long = record {
  shallow = omega arith;
  long = long;
  stack = λ k. record { list = 0; at = 0 };
  turn = record { walk = walk; foretold = foretold; swept = sweep_begin (lists_of b) (cursor b places) _ begun; held = λ k l. absurd (omega arith) };
}

-- A turn of the sweep, which is lent the open records as a part of the table.
module _ (b b₀ places keys : List ℕ) (coming : Option Met) (table records : List Open) (depth : ℕ) (w : Round b places keys coming table depth) (ordered : Ordered (lists_of b)) (same : b₀ ≡ b)
    (lends : records ≡ take depth table) (places' keys' : List ℕ) where
  -- As many records are lent as are open.
  lent : length (take depth table) ≡ depth
  lent = length-take-le depth table (omega (arith, w.shallow, w.long))

  -- What a turn makes of the sweep.
  pub round_judged : (turn : Turn) → Turned b₀ places keys records coming places' keys' turn → Judged b places keys w.stack (take depth table) coming places' keys' turn
  round_judged turn turned =
      turn_judged b places keys (take depth table) coming places' keys' turn w.turn.walk w.turn.foretold ordered (omega (arith, lent, w.shallow)) w.stack
      (subst (λ (n : ℕ). Swept (lists_of b) (cursor b places) w.stack n) (sym lent) w.turn.swept)
      (innermost_held (lists_of b) w.stack (take depth table) (λ k l. let m : k < depth = omega (arith, lent) in rw (get_or-take depth table k blank m) (w.turn.held k m)))
      (subst (λ (rs : List Open). Turned b places keys rs coming places' keys' turn) lends (subst (λ (c : List ℕ). Turned c places keys records coming places' keys' turn) same turned))

  module _ (next : Option Met) (turned : Turned b₀ places keys records coming places' keys' (Closed next)) where
    -- What is known when a record is closed.
    closed : (next ≡ coming) × (places' ≡ places) × (keys' ≡ keys) × ClosesOne (lists_of b) (cursor b places) w.stack depth
    closed = let j = round_judged (Closed next) turned in (j.0, j.1, j.2, subst (ClosesOne (lists_of b) (cursor b places) w.stack) lent j.3)

    -- There is one.
    pub close_some : 0 < depth
    close_some = closed.3.some

    -- The sweep stands between two turns again.
    pub round_close : Round b places' keys' next table (depth - 1)
    round_close = rw (closed.0, closed.1, closed.2) (record {
      shallow = omega (arith, w.shallow);
      long = w.long;
      stack = w.stack;
      turn = record { walk = w.turn.walk; foretold = w.turn.foretold; swept = closed.3.swept; held = λ k l. w.turn.held k (omega arith) };
    })

    -- And the weight is less.
    pub close_less : weight b places' (depth - 1) < weight b places depth
    close_less = rw closed.1 (omega (arith, close_some))

  module _ (inner : Open) (next : Option Met) (turned : Turned b₀ places keys records coming places' keys' (Opened inner next)) where
    -- What is known when a record is opened.
    opening : Standing b places' keys' × Foretells (lists_of b) (cursor b places') next × OpensOne (lists_of b) (cursor b places) (cursor b places') w.stack depth inner
    opening = let j = round_judged (Opened inner next) turned in (j.0, j.1, subst (λ (n : ℕ). OpensOne (lists_of b) (cursor b places) (cursor b places') w.stack n inner) lent j.2)

    -- There is room for it.
    pub open_room : depth < most_nested
    open_room = opening.2.room

    -- The label's place.
    abbrev x : Place
    x = record { list = opening.2.list; at = cursor b places opening.2.list }

    -- The open records' labels.
    abbrev stack' : ℕ → Place
    stack' = pushed w.stack depth x

    -- The table with the record at its place.
    abbrev table' : List Open
    table' = set table depth inner

    -- The record that is opened stands at its place, and the others stay.
    held : (k : ℕ) → (k ≡ depth) ⊎ (k < depth) → Same (lists_of b) (stack' k) (entry table' k)
    held k (inl e) = rw (e, pushed_top w.stack depth x, get_or-set_same table depth inner blank (omega (arith, w.long, open_room))) opening.2.same
    held k (inr l) = rw (pushed_below w.stack depth x k l, get_or-set_other table depth k inner blank (ne_of_lt l)) (w.turn.held k l)

    -- The sweep stands between two turns again.
    pub round_open : Round b places' keys' next table' (depth + 1)
    round_open = record {
      shallow = omega (arith, open_room);
      long = simp length-set w.long;
      stack = stack';
      turn = record {
        walk = opening.0;
        foretold = opening.1;
        swept = let e : suc depth ≡ depth + 1 = omega arith in subst (λ (n : ℕ). Swept (lists_of b) (cursor b places') stack' n) e opening.2.swept;
        held = λ k l. held k (below_or (omega arith));
      };
    }

    -- And the weight is less.
    pub open_less : weight b places' (depth + 1) < weight b places depth
    open_less =
        let o = opening.2 in
        omega (arith, left_falls (lists_of b).count (cursor b places) (cursor b places') o.list o.moved o.holds.at_lt (tags b) o.holds.list_lt)
