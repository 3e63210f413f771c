-- What a function that writes a part of a line promises.
use Rattle.std.specs.Prelude.{ℕ, ◌-◌, ◌^◌, ◌≤◌, ◌<◌, ◌≡◌, List, ◌++◌, length}
use Rattle.meaning.specs.declared.Label.{Label}
use Rattle.meaning.specs.Printing.{Decimal, RecordText, LineText}

-- Most digits of a number of a label.
abbrev pub most_digits : ℕ
most_digits = 10

-- Most bytes of a record: two numbers and the colon.
abbrev pub most_record : ℕ
most_record = 21

-- Most bytes of a line: 32 records, each with a blank or the line feed.
abbrev pub most_line : ℕ
most_line = 704

-- The number n has k decimal digits: as few as hold it, at least one, and no more than a number of a label can have.
pub record Places (n k : ℕ) : Type 0 where
  pub some : 1 ≤ k
  pub most : k ≤ most_digits
  pub held : n < 10 ^ k
  pub few : 1 < k → 10 ^ (k - 1) ≤ n

-- The number n is written behind what was written.
pub record AddsNumber (n : ℕ) (entry exit : List ℕ) : Type 0 where
  pub part : List ℕ
  pub is : Decimal n part
  pub most : length part ≤ most_digits
  pub adds : exit ≡ entry ++ part

-- The record of a label is written behind what was written.
pub record AddsRecord (l : Label) (entry exit : List ℕ) : Type 0 where
  pub part : List ℕ
  pub is : RecordText l part
  pub most : length part ≤ most_record
  pub adds : exit ≡ entry ++ part

-- The line of k steps is written, and nothing else.
pub record Written (label : ℕ → Label) (k : ℕ) (line : List ℕ) : Type 0 where
  pub text : LineText label k line
  pub within : length line ≤ most_line
