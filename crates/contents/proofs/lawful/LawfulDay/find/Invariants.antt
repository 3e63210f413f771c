-- What keeps the loop: the rows from r on do not have the name.
use Rattle.std.proofs.Common.{ℕ, ◌≤◌}
use Rattle.meaning.specs.Day.{Has}
use Rattle.contents.proofs.lawful.LawfulDay.find.Given as goal

abbrev pub invariant-loop-r : goal.invariant-loop-r
invariant-loop-r l = (k : ℕ) → l.r ≤ k → Has l.self.index.now l.name k → ⊥
