-- What the program prints for a row of evidence.
use Rattle.std.specs.Prelude.{ℕ, zero, suc, ◌+◌, ◌-◌, ◌/◌, ◌%◌, ◌^◌, ◌≤◌, ◌<◌, ◌≡◌, List, [], ◌∷◌, ◌++◌}
use Rattle.meaning.specs.declared.Label.{Label}

-- The last k decimal digits of n as characters, the most significant first.
abbrev pub digits : ℕ → ℕ → List ℕ
digits zero n = []
digits (suc k) n = digits k (n / 10) ++ (48 + n % 10) ∷ []

-- The text w is the number n: as few decimal digits as hold it, and at least one.
pub record Decimal (n : ℕ) (w : List ℕ) : Type 0 where
  pub places : ℕ
  pub some : 1 ≤ places
  pub held : n < 10 ^ places
  pub few : 1 < places → 10 ^ (places - 1) ≤ n
  pub written : w ≡ digits places n

-- The text w is a record: its start, a colon, its end.
pub record RecordText (l : Label) (w : List ℕ) : Type 0 where
  pub start : List ℕ
  pub end : List ℕ
  pub start_is : Decimal l.start start
  pub end_is : Decimal l.end end
  pub written : w ≡ start ++ 58 ∷ end

-- The text w is the records of the first k steps in order, with one blank between steps.
pub data StepsText (label : ℕ → Label) : ℕ → List ℕ → Type 0 where
  one : {w : List ℕ} → RecordText (label 0) w → StepsText label 1 w
  more : {k : ℕ} {v w : List ℕ} → StepsText label k v → RecordText (label k) w → StepsText label (suc k) (v ++ 32 ∷ w)

-- The text w is a line: for each of k steps in order its record, and a line feed.
pub record LineText (label : ℕ → Label) (k : ℕ) (w : List ℕ) : Type 0 where
  pub records : List ℕ
  pub records_are : StepsText label k records
  pub written : w ≡ records ++ 10 ∷ []
