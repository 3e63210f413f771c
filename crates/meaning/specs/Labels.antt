-- Labels, and the lists of labels of a day: which are lawful, and what refusals 5 and 6 find in those that are not.
use Rattle.std.specs.Prelude.{ℕ, suc, ◌≤◌, ◌<◌, ◌≡◌, ◌⊎◌, ◌≢◌}
use Rattle.meaning.specs.declared.Label.{Label}
use Rattle.meaning.specs.Limits.{most_nested}

-- a lies inside b when b starts before a and a ends before b.
pub record Inside (a b : Label) : Type 0 where
  pub after : b.start < a.start
  pub before : a.end < b.end

-- Two labels are apart when one ends before the other starts.
abbrev pub Apart : Label → Label → Type 0
Apart a b = (a.end < b.start) ⊎ (b.end < a.start)

-- Two labels have four different numbers, where each has two different ones itself.
pub record Different (a b : Label) : Type 0 where
  pub starts : a.start ≢ b.start
  pub start_end : a.start ≢ b.end
  pub end_start : a.end ≢ b.start
  pub ends : a.end ≢ b.end

-- The lists of a day: how many there are, how many labels list r has, and label i of list r.
pub record Lists : Type 0 where
  pub many : ℕ
  pub count : ℕ → ℕ
  pub label : ℕ → ℕ → Label

-- Where a label stands: its list, and its list position, which counts from 0.
pub record Place : Type 0 where
  pub list : ℕ
  pub at : ℕ

-- The label at a place.
abbrev pub label_of : Lists → Place → Label
label_of t x = t.label x.list x.at

-- The place has a label.
pub record Holds (t : Lists) (x : Place) : Type 0 where
  pub list_lt : x.list < t.many
  pub at_lt : x.at < t.count x.list

-- n labels lie each inside the one before.
pub record Nested (t : Lists) (n : ℕ) (c : ℕ → Place) : Type 0 where
  pub holds : (i : ℕ) → i < n → Holds t (c i)
  pub inside : (i : ℕ) → suc i < n → Inside (label_of t (c (suc i))) (label_of t (c i))

-- Lawful lists: start < end in each label, each list ascends strictly by start, any two labels have four different numbers and are
-- either one inside the other or apart, and no 65 labels lie each inside the one before.
pub record LawfulLists (t : Lists) : Type 0 where
  pub ordered : (x : Place) → Holds t x → (label_of t x).start < (label_of t x).end
  pub ascending : (r i j : ℕ) → r < t.many → i < j → j < t.count r → (t.label r i).start < (t.label r j).start
  pub different : (x y : Place) → Holds t x → Holds t y → x ≢ y → Different (label_of t x) (label_of t y)
  pub nested_or_apart : (x y : Place) → Holds t x → Holds t y → x ≢ y
      → Inside (label_of t x) (label_of t y) ⊎ Inside (label_of t y) (label_of t x) ⊎ Apart (label_of t x) (label_of t y)
  pub shallow : (c : ℕ → Place) → Nested t (suc most_nested) c → ⊥

-- Refusal 5, its first part: a label with start ≥ end.
pub record Backward (t : Lists) : Type 0 where
  pub place : Place
  pub holds : Holds t place
  pub wrong : (label_of t place).end ≤ (label_of t place).start

-- Refusal 5, its second part: a list not strictly ascending by start.
pub record Descent (t : Lists) : Type 0 where
  pub list : ℕ
  pub i : ℕ
  pub j : ℕ
  pub list_lt : list < t.many
  pub i_lt : i < j
  pub j_lt : j < t.count list
  pub wrong : (t.label list j).start ≤ (t.label list i).start

-- Refusal 5: a label with start ≥ end, or a list not strictly ascending by start.
abbrev pub Unordered : Lists → Type 0
Unordered t = Backward t ⊎ Descent t

-- Two labels share a number.
abbrev pub Share : Label → Label → Type 0
Share a b = (a.start ≡ b.start) ⊎ (a.start ≡ b.end) ⊎ (a.end ≡ b.start) ⊎ (a.end ≡ b.end)

-- Two labels cross: the second starts within the first and ends after it.
pub record Cross (a b : Label) : Type 0 where
  pub first : a.start < b.start
  pub within : b.start < a.end
  pub past : a.end < b.end

-- Refusal 6, its first part: two labels share a number or cross.
pub record Clash (t : Lists) : Type 0 where
  pub one : Place
  pub other : Place
  pub holds_one : Holds t one
  pub holds_other : Holds t other
  pub two : one ≢ other
  pub wrong : Share (label_of t one) (label_of t other) ⊎ Cross (label_of t one) (label_of t other)

-- Refusal 6: two labels share a number or cross, or 65 are nested.
abbrev pub Tangled : Lists → Type 0
Tangled t = Clash t ⊎ ((c : ℕ → Place) × Nested t (suc most_nested) c)
