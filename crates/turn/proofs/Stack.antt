-- The sweep of all lists in order of start: what it has seen, which records are open, and what a turn makes of that.
use Prim.Native.Nat.{ℕ, suc, ◌-◌, ◌<◌}
use mathlib.Core.Path.{◌≡◌}
use mathlib.Core.Logic.{◌⊎◌, ◌≢◌}
use mathlib.Core.Bool.{cond}
use mathlib.Core.List.{List}
use lib.Dec.{ltb}
use lib.ListN.{length}
use Rattle.std.specs.Prelude.{Option}
use Rattle.meaning.specs.Limits.{most_nested}
use Rattle.meaning.specs.Labels.{Lists, Place, label_of, Holds, Inside, Nested, Tangled}
use Rattle.meaning.specs.Answers.{Decides}
use Rattle.meaning.specs.Day.{lists_of}
use Rattle.order.specs.declared.Met.{Met}
use Rattle.order.specs.Walk.{start_of, end_of, Seen, Waits, next, Moved, Foretells}
use Rattle.order.specs.Standing.{cursor, Standing}
use Rattle.open.specs.declared.Open.{Open}
use Rattle.open.specs.Entries.{entry}
use Rattle.turn.specs.Sweep.{innermost}
use Rattle.turn.specs.declared.Turn.{Turn}
use Rattle.turn.specs.declared.Turn.TheVariants.{Over, Closed, Opened}

-- The label at x lies inside the one at y.
abbrev pub LiesIn : Lists → Place → Place → Type 0
LiesIn t x y = Inside (label_of t x) (label_of t y)

-- The label at x ends before the one at y starts.
abbrev pub Before : Lists → Place → Place → Type 0
Before t x y = end_of t x < start_of t y

-- Two labels are nested or apart; where start < end in each, these are four different numbers.
abbrev pub Fine : Lists → Place → Place → Type 0
Fine t x y = LiesIn t x y ⊎ LiesIn t y x ⊎ Before t x y ⊎ Before t y x

-- The sweep so far, with the lists' cursors and the open records, of which number k stands at `stack k`.
pub record Swept (t : Lists) (pos : ℕ → ℕ) (stack : ℕ → Place) (depth : ℕ) : Type 0 where
  -- What is seen is nested or apart.
  pub fine : (x y : Place) → Seen t pos x → Seen t pos y → x ≢ y → Fine t x y
  -- No 65 of what is seen are nested.
  pub shallow : (c : ℕ → Place) → Nested t (suc most_nested) c → ((i : ℕ) → i < suc most_nested → Seen t pos (c i)) → ⊥
  -- The open records are seen.
  pub held : (k : ℕ) → k < depth → Seen t pos (stack k)
  -- Each open record lies inside those before it.
  pub nest : (j k : ℕ) → j < k → k < depth → LiesIn t (stack k) (stack j)
  -- What is seen is open, or ends before all that waits starts.
  pub closed : (x y : Place) → Seen t pos x → Waits t pos y → ((k : ℕ) × (k < depth) × (stack k ≡ x)) ⊎ Before t x y

-- The open records with one more on top.
unfoldable pub pushed : (ℕ → Place) → ℕ → Place → ℕ → Place
pushed stack depth x k = cond (ltb k depth) (stack k) x

-- `inner` has the numbers of the label at a place, and its list.
pub record Same (t : Lists) (x : Place) (inner : Open) : Type 0 where
  pub start : inner.start ≡ start_of t x
  pub end : inner.end ≡ end_of t x
  pub list : inner.list ≡ x.list

-- The open records are those of the labels at the places.
abbrev pub Held : Lists → (ℕ → Place) → List Open → Type 0
Held t stack records = (k : ℕ) → k < length records → Same t (stack k) (entry records k)

-- The innermost record is that of the last of those places. A turn asks no more of the open records.
abbrev pub Innermost : Lists → (ℕ → Place) → List Open → Type 0
Innermost t stack records = (k : ℕ) → length records ≡ suc k → Same t (stack k) (innermost records)

-- A turn that closes the innermost record.
pub record ClosesOne (t : Lists) (pos : ℕ → ℕ) (stack : ℕ → Place) (depth : ℕ) : Type 0 where
  pub some : 0 < depth
  pub swept : Swept t pos stack (depth - 1)

-- A turn that opens the label next in a list.
pub record OpensOne (t : Lists) (pos pos' : ℕ → ℕ) (stack : ℕ → Place) (depth : ℕ) (inner : Open) : Type 0 where
  pub list : ℕ
  pub holds : Holds t (next pos list)
  pub moved : Moved pos pos' list
  pub room : depth < most_nested
  pub same : Same t (next pos list) inner
  pub swept : Swept t pos' (pushed stack depth (next pos list)) (suc depth)

-- What a turn makes of the sweep: it is over and says whether something is wrong, or a record is closed, or one is opened.
abbrev pub Judged : (b places keys : List ℕ) → (ℕ → Place) → List Open → Option Met → (places' keys' : List ℕ) → Turn → Type 0
Judged b places keys stack records coming places' keys' (Over wrong) = Decides (Tangled (lists_of b)) wrong
Judged b places keys stack records coming places' keys' (Closed next) =
    (next ≡ coming) × (places' ≡ places) × (keys' ≡ keys) × ClosesOne (lists_of b) (cursor b places) stack (length records)
Judged b places keys stack records coming places' keys' (Opened inner next) =
    Standing b places' keys' × Foretells (lists_of b) (cursor b places') next × OpensOne (lists_of b) (cursor b places) (cursor b places') stack (length records) inner
