-- A tree as the reader hands it on: each step by where its name stands in the text.
use Rattle.std.specs.Prelude.{ℕ, ◌+◌, List, [], ◌∷◌, ◌++◌, length, Option, Some}
use Rattle.meaning.specs.declared.Step.{Step}
use Rattle.meaning.specs.Notation.{Path, path, After, finish, bracket, next, write, write_after, steps}

-- How many bytes a path is written in.
abbrev pub size : Path → ℕ
size p = length (write p [])

-- How many bytes what follows a name is written in.
abbrev pub size_after : After → ℕ
size_after a = length (write_after a [])

-- The steps in text order, of a path that is written from `at` on and whose first step has number k and hangs from number `hang`, or from
-- nothing: each with where its name starts and how long it is.
unfoldable mutual
  pub stored : Path → Option ℕ → ℕ → ℕ → List Step
  stored (path n a) hang k at = record { start = at + 2; length = length n; hangs = hang } ∷ stored_after a k (k + 1) (at + 2 + length n)

  pub stored_after : After → ℕ → ℕ → ℕ → List Step
  stored_after finish me k at = []
  stored_after (bracket p a) me k at = stored p (Some me) k (at + 1) ++ stored_after a me (k + steps p) (at + 1 + size p + 1)
  stored_after (next p) me k at = stored p (Some me) k at
