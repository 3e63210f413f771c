-- What is seen from a call: the first record of a body that lies inside it, and what becomes of the call.
use Rattle.std.specs.Prelude.{ℕ, ◌≤◌, ◌<◌, ◌≡◌, Option, Some, None, IfSome}
use Rattle.meaning.specs.declared.Label.{Label}
use Rattle.meaning.specs.Labels.{Inside}
use Rattle.meaning.specs.Waits.{Tagged, board, cancel, Traffic, Ends, Open}
use Rattle.tally.specs.declared.Outcome.{Outcome}
use Rattle.tally.specs.declared.Outcome.TheVariants.{Boarded, Cancelled, Open as Neither}

-- Records are ordered, and what starts within a call lies inside it.
pub record Whole (t : Tagged) (c : Label) : Type 0 where
  pub ordered : (j : ℕ) → j < t.count → (t.label j).start < (t.label j).end
  pub inside : (j : ℕ) → j < t.count → c.start < (t.label j).start → (t.label j).start < c.end → Inside (t.label j) c

-- Where the first record that lies inside a call starts, if there is one.
pub data FirstStart (t : Tagged) (c : Label) : Option ℕ → Type 0 where
  first : {s : ℕ} (j : ℕ) → j < t.count → Inside (t.label j) c → s ≡ (t.label j).start → ((k : ℕ) → k < t.count → Inside (t.label k) c → s ≤ (t.label k).start) → FirstStart t c (Some s)
  nothing : ((k : ℕ) → k < t.count → Inside (t.label k) c → ⊥) → FirstStart t c None

-- What two numbers decide, each of which may be missing: the lesser of those that are there ends the wait, and where there is none nothing does.
abbrev pub Decided : Option ℕ → Option ℕ → Outcome → Type 0
Decided b c (Boarded s) = (b ≡ Some s) × IfSome c (λ t. s ≤ t)
Decided b c (Cancelled s) = (c ≡ Some s) × IfSome b (λ t. s ≤ t)
Decided b c Neither = (b ≡ None) × (c ≡ None)

-- What becomes of call i, case by case: a boarding or a cancellation that starts at the number ends its wait, or it is open.
abbrev pub Becomes : Traffic → ℕ → Outcome → Type 0
Becomes w i (Boarded s) = (j : ℕ) × Ends w i board j × (s ≡ ((w.ended board).label j).start)
Becomes w i (Cancelled s) = (j : ℕ) × Ends w i cancel j × (s ≡ ((w.ended cancel).label j).start)
Becomes w i Neither = Open w i
