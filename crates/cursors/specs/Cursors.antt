-- What settling the cursors promises.
use Rattle.std.specs.Prelude.{ℕ, ◌≤◌, ◌<◌, ◌≡◌, Bool, true, false, List}
use Rattle.meaning.specs.Notation.{from}
use Rattle.meaning.specs.Bytes.{at}
use Rattle.meaning.specs.Picks.{Asked, Pick}

-- p is at no step past q.
abbrev pub AtMost : Asked → (ℕ → ℕ) → (ℕ → ℕ) → Type 0
AtMost a p q = (s : ℕ) → s < a.steps → p s ≤ q s

-- p is the pick that is at no step past any other pick at or after `low`.
pub record LeastPick (a : Asked) (low p : ℕ → ℕ) : Type 0 where
  pub pick : Pick a p
  pub later : AtMost a low p
  pub least : (q : ℕ → ℕ) → Pick a q → AtMost a low q → AtMost a p q

-- No pick is at or after `low`.
abbrev pub NoPick : Asked → (ℕ → ℕ) → Type 0
NoPick a low = (q : ℕ → ℕ) → Pick a q → AtMost a low q → ⊥

-- What settling says: the cursors are the least pick from where they were, or there is none.
pub data Settled (a : Asked) (low : ℕ → ℕ) : Bool → List ℕ → Type 0 where
  found : {xs : List ℕ} → LeastPick a low (at xs) → Settled a low true xs
  ended : {xs : List ℕ} → NoPick a low → Settled a low false xs

-- The record of step s starts within the record of step u.
pub record Touches (a : Asked) (p : ℕ → ℕ) (s u : ℕ) : Type 0 where
  pub after : (a.label u (p u)).start < (a.label s (p s)).start
  pub reached : (a.label s (p s)).start ≤ (a.label u (p u)).end

-- The cursors of the steps below s are in range, and their edges are not broken.
pub record Unbroken (a : Asked) (p : ℕ → ℕ) (s : ℕ) : Type 0 where
  pub ranged : (j : ℕ) → j < s → p j < a.count j
  pub touches : (j : ℕ) → j < s → (u : ℕ) → a.hook j ≡ from u → Touches a p j u
