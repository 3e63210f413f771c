-- What a call from C gives: its outcome as numbers.
use Rattle.std.specs.Prelude.{ℕ, ◌≡◌, List, Result}
use Rattle.meaning.specs.declared.Page.{Page}
use Rattle.meaning.specs.declared.refusal.Refusal.{Refusal}
use Rattle.meaning.specs.Numbers as table

-- The numbers of a call for rows are those of the refusal table's laws. They have a name here, since must-fail/more-upside-down.edit turns them.
abbrev pub numbers : Result Page Refusal → List ℕ
numbers r = table.numbers r

-- The numbers are those of an outcome that a promise allows.
pub record PassedOn {A : Type 0} (numbers_of : A → List ℕ) (Promise : A → Type 0) (result : List ℕ) : Type 0 where
  pub outcome : A
  pub promised : Promise outcome
  pub numbered : result ≡ numbers_of outcome
