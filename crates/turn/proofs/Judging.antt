-- What a turn's promise means for the sweep: whichever records the open ones are, the turn judges rightly.
use Prim.Native.Nat.{ℕ, ◌<◌, ◌≤◌}
use mathlib.Core.Path.{◌≡◌, refl, sym, subst}
use mathlib.Core.List.{List}
use lib.ListN.{length}
use Rattle.std.specs.Prelude.{Option}
use Rattle.meaning.specs.Limits.{most_nested}
use Rattle.meaning.specs.Labels.{Lists, Place}
use Rattle.meaning.specs.Answers.{holds, fails}
use Rattle.meaning.specs.Day.{lists_of}
use Rattle.order.specs.declared.Met.{Met}
use Rattle.order.specs.Walk.{Foretells}
use Rattle.order.specs.Standing.{cursor, Standing}
use Rattle.lists.specs.Ordering.{Ordered}
use Rattle.open.specs.declared.Open.{Open}
use Rattle.turn.specs.declared.Turn.{Turn}
use Rattle.turn.specs.Sweep.{Turned, ends, closes, refuses, opens}
use Rattle.turn.proofs.Stack.{Swept, Innermost, Judged}
use Rattle.turn.proofs.Passing.{sweep_end}
use Rattle.turn.proofs.Turning.{turn_close, turn_refuse, turn_open, turn_room}

module _ (b places keys : List ℕ) (records : List Open) (coming : Option Met) (places' keys' : List ℕ) (turn : Turn) (walk : Standing b places keys) (foretold : Foretells (lists_of b) (cursor b places) coming)
    (ordered : Ordered (lists_of b)) (shallow : length records ≤ most_nested) (stack : ℕ → Place) (swept : Swept (lists_of b) (cursor b places) stack (length records)) (inner : Innermost (lists_of b) stack records) where
  -- The lists.
  abbrev t : Lists
  t = lists_of b

  -- Their cursors.
  abbrev pos : ℕ → ℕ
  pos = cursor b places

  -- What comes next, where it is known.
  told : {x : Option Met} → coming ≡ x → Foretells t pos x
  told e = subst (Foretells t pos) e foretold

  -- What is judged of a turn is judged of one that equals it.
  by : (z : Turn) → turn ≡ z → Judged b places keys stack records coming places' keys' z → Judged b places keys stack records coming places' keys' turn
  by z e = subst (λ (x : Turn). Judged b places keys stack records coming places' keys' x) (sym e)

  -- The turn judges rightly: each way that it can end is a law of the sweep.
  pub turn_judged : Turned b places keys records coming places' keys' turn → Judged b places keys stack records coming places' keys' turn
  turn_judged (ends c e pe ke) = by _ e (fails (sweep_end t ordered pos stack (length records) swept (told c)))
  turn_judged (closes met c h e pe ke) =
      let f = told c in
      by _ e (refl, pe, ke, turn_close t ordered pos records stack swept inner walk.sorted met.list met.start f.0 f.2 h)
  turn_judged (refuses met c stays r e pe ke) =
      let f = told c in
      by _ e (holds (turn_refuse t ordered pos records stack swept inner walk.sorted met.list met.start f.0 f.2 met.end f.3 stays r))
  turn_judged (opens met next c stays free h e) =
      let f = told c in
      let room : length records < most_nested = turn_room records met.start met.end shallow free in
      by _ e (h.standing, h.foretold, turn_open t ordered pos records stack swept inner walk.sorted met.list met.start f.0 f.2 met.end f.3 stays free room (cursor b places') h.moved)
