-- The waiting table, change request C-17 of document 02: what becomes of a call, its wait, and each figure from the records by itself.
use Rattle.std.specs.Prelude.{ℕ, suc, ◌+◌, ◌-◌, ◌/◌, ◌≤◌, ◌<◌, ◌≡◌, ◌⊎◌, List, [], ◌∷◌, length}
use Rattle.meaning.specs.declared.Label.{Label}
use Rattle.meaning.specs.declared.Figures.{Figures}
use Rattle.meaning.specs.Bytes.{at}
use Rattle.meaning.specs.Labels.{Inside, Place, label_of, Holds}
use Rattle.meaning.specs.Day.{label_at, lists_of, body_of}

-- The records of one tag: how many there are, and the label of each.
pub record Tagged : Type 0 where
  pub count : ℕ
  pub label : ℕ → Label

-- The two kinds of records that end a call's wait.
pub data Ending : Type 0 where
  board : Ending
  cancel : Ending

-- What the waiting table is made from: the calls of a day, the records of each ending, and the time of each number.
pub record Traffic : Type 0 where
  pub calls : Tagged
  pub ended : Ending → Tagged
  pub time : ℕ → ℕ

-- The records of a body: 8 bytes for each label.
abbrev pub in_body : List ℕ → Tagged
in_body body = record { count = length body / 8; label = label_at body 0 }

-- Of two things the one that goes with an ending.
abbrev pub of_ending : {A : Type 0} → A → A → Ending → A
of_ending boards cancels board = boards
of_ending boards cancels cancel = cancels

-- The traffic of three bodies and a list of times, of which entry i is the time of a start or end i.
abbrev pub traffic_of : List ℕ → List ℕ → List ℕ → List ℕ → Traffic
traffic_of calls boards cancels times = record { calls = in_body calls; ended = λ e. in_body (of_ending boards cancels e); time = at times }

-- The name `call`.
abbrev pub call_name : List ℕ
call_name = 99 ∷ 97 ∷ 108 ∷ 108 ∷ []

-- The name `board`.
abbrev pub board_name : List ℕ
board_name = 98 ∷ 111 ∷ 97 ∷ 114 ∷ 100 ∷ []

-- The name `cancel`.
abbrev pub cancel_name : List ℕ
cancel_name = 99 ∷ 97 ∷ 110 ∷ 99 ∷ 101 ∷ 108 ∷ []

-- The traffic of a day: the bodies of these three names, of which one without a row is empty.
abbrev pub traffic : List ℕ → List ℕ → Traffic
traffic b times = traffic_of (body_of b call_name) (body_of b board_name) (body_of b cancel_name) times

-- Record j of an ending lies inside call i.
pub record Within (w : Traffic) (i : ℕ) (e : Ending) (j : ℕ) : Type 0 where
  pub is : j < (w.ended e).count
  pub inside : Inside ((w.ended e).label j) (w.calls.label i)

-- Record j of an ending ends the wait of call i: of the boardings and cancellations inside the call it is the one that starts first.
pub record Ends (w : Traffic) (i : ℕ) (e : Ending) (j : ℕ) : Type 0 where
  pub within : Within w i e j
  pub first : (f : Ending) (k : ℕ) → Within w i f k → ((w.ended e).label j).start ≤ ((w.ended f).label k).start

-- A call that such a record ends is boarded or cancelled, by what the record is.
abbrev pub Ended : Traffic → Ending → ℕ → Type 0
Ended w e i = (j : ℕ) × Ends w i e j

-- A call that is boarded or cancelled is closed.
abbrev pub Closed : Traffic → ℕ → Type 0
Closed w i = Ended w board i ⊎ Ended w cancel i

-- A call with neither inside is open.
abbrev pub Open : Traffic → ℕ → Type 0
Open w i = (e : Ending) (j : ℕ) → Within w i e j → ⊥

-- The wait of call i until record j of an ending: from the call's start to the record's start.
abbrev pub wait_until : Traffic → ℕ → Ending → ℕ → ℕ
wait_until w i e j = w.time ((w.ended e).label j).start - w.time (w.calls.label i).start

-- A boarded or cancelled call waits until the record that ends its wait.
abbrev pub Waited : Traffic → ℕ → ℕ → Type 0
Waited w i d = (e : Ending) × (j : ℕ) × Ends w i e j × (d ≡ wait_until w i e j)

-- What the first n add up to: each that adds something adds it, and the others nothing.
pub data Sum (Adds : ℕ → ℕ → Type 0) : ℕ → ℕ → Type 0 where
  none : Sum Adds 0 0
  with : {n s d : ℕ} → Sum Adds n s → Adds n d → Sum Adds (suc n) (s + d)
  without : {n s : ℕ} → Sum Adds n s → ((d : ℕ) → Adds n d → ⊥) → Sum Adds (suc n) s

-- How many of the first n are such: each of them adds 1.
abbrev pub Number : (ℕ → Type 0) → ℕ → ℕ → Type 0
Number Such = Sum (λ i d. Such i × (d ≡ 1))

-- The longest of what the first n have, or 0 if none has anything.
pub data Longest (Has : ℕ → ℕ → Type 0) (n : ℕ) : ℕ → Type 0 where
  that_of : {i d : ℕ} → i < n → Has i d → ((k e : ℕ) → k < n → Has k e → e ≤ d) → Longest Has n d
  nobody : ((k e : ℕ) → k < n → Has k e → ⊥) → Longest Has n 0

-- The figures of the first n calls: how many they are, and how many of them are boarded, cancelled and open; their total wait, and the
-- longest; and, for the mean, over how many the total is: those that are closed.
pub record Figured (w : Traffic) (n : ℕ) (f : Figures) : Type 0 where
  pub calls : f.calls ≡ n
  pub boarded : Number (Ended w board) n f.boarded
  pub cancelled : Number (Ended w cancel) n f.cancelled
  pub left_open : Number (Open w) n f.left_open
  pub total : Sum (Waited w) n f.total
  pub longest : Longest (Waited w) n f.longest
  pub over : Number (Closed w) n f.over

-- The figures of no calls: all are 0.
abbrev pub no_figures : Figures
no_figures = record { calls = 0; boarded = 0; cancelled = 0; left_open = 0; total = 0; longest = 0; over = 0 }

-- Refusal 20: some start or end in the index, of whatever tag, has no entry.
abbrev pub NoEntry : List ℕ → List ℕ → Type 0
NoEntry b times = (x : Place) × Holds (lists_of b) x × ((length times ≤ (label_of (lists_of b) x).start) ⊎ (length times ≤ (label_of (lists_of b) x).end))

-- Refusal 21: an entry anywhere in the list is smaller than the one before.
abbrev pub TimesDescend : List ℕ → Type 0
TimesDescend times = (i : ℕ) × (suc i < length times) × (at times (suc i) < at times i)
