-- The notation of a question, by printing: a path is a tree, and a text follows the notation when some tree is written so.
use Rattle.std.specs.Prelude.{ℕ, ◌+◌, ◌<◌, max, ◌≡◌, ◌⊎◌, List, [], ◌∷◌, ◌++◌, length}
use Rattle.meaning.specs.Limits.{most_text, most_steps, most_depth}
use Rattle.meaning.specs.Names.{Name}

-- A path is one or more steps: the first step's name, and what follows that name.
-- What follows a name is the path's end; or a bracket of this step, which holds a path, and what follows the bracket; or the path's
-- further steps, which are a path again.
mutual
  pub data Path : Type 0 where
    path : List ℕ → After → Path

  pub data After : Type 0 where
    finish : After
    bracket : Path → After → After
    next : Path → After

-- The text of a path before the text `rest`: a step is `//` (47 47) and its name, a bracket is `[` (91), a path, `]` (93).
unfoldable mutual
  pub write : Path → List ℕ → List ℕ
  write (path n a) rest = 47 ∷ 47 ∷ n ++ write_after a rest

  pub write_after : After → List ℕ → List ℕ
  write_after finish rest = rest
  write_after (bracket p a) rest = 91 ∷ write p (93 ∷ write_after a rest)
  write_after (next p) rest = write p rest

-- Every name in the tree is a name.
abbrev mutual
  pub Named : Path → Type 0
  Named (path n a) = Name n × NamedAfter a

  pub NamedAfter : After → Type 0
  NamedAfter finish = Unit
  NamedAfter (bracket p a) = Named p × NamedAfter a
  NamedAfter (next p) = Named p

-- The text follows the notation: a tree is written so.
pub record Follows (text : List ℕ) : Type 0 where
  pub tree : Path
  pub named : Named tree
  pub written : write tree [] ≡ text

-- The number of steps.
unfoldable mutual
  pub steps : Path → ℕ
  steps (path n a) = 1 + steps_after a

  pub steps_after : After → ℕ
  steps_after finish = 0
  steps_after (bracket p a) = steps p + steps_after a
  steps_after (next p) = steps p

-- How many brackets deep it goes.
unfoldable mutual
  pub depth : Path → ℕ
  depth (path n a) = depth_after a

  pub depth_after : After → ℕ
  depth_after finish = 0
  depth_after (bracket p a) = max (1 + depth p) (depth_after a)
  depth_after (next p) = depth p

-- What a step hangs from: nothing, or the step of that number.
pub data Hook : Type 0 where
  nothing : Hook
  from : ℕ → Hook

-- A step: its name, and what it hangs from.
pub record Step : Type 0 where
  pub name : List ℕ
  pub hook : Hook

-- The steps in text order. The first step of a path has number k and hangs from `hook`; the first step of a bracket hangs from the
-- step that carries the bracket, and any other step from the step before it in its path: in both cases from `me`, the step just named.
unfoldable mutual
  pub list : Path → Hook → ℕ → List Step
  list (path n a) hook k = record { name = n; hook = hook } ∷ list_after a k (k + 1)

  pub list_after : After → ℕ → ℕ → List Step
  list_after finish me k = []
  list_after (bracket p a) me k = list p (from me) k ++ list_after a me (k + steps p)
  list_after (next p) me k = list p (from me) k

-- The steps of a question, numbered from 0; the first step of the whole text hangs from nothing.
abbrev pub step_list : Path → List Step
step_list p = list p nothing 0

-- The last step outside all brackets, of a path whose first step has number k.
unfoldable mutual
  pub last_step : Path → ℕ → ℕ
  last_step (path n a) k = last_after a k (k + 1)

  pub last_after : After → ℕ → ℕ → ℕ
  last_after finish me k = me
  last_after (bracket p a) me k = last_after a me (k + steps p)
  last_after (next p) me k = last_step p k

-- The returned step: the last one outside all brackets.
abbrev pub returned_step : Path → ℕ
returned_step p = last_step p 0

-- Refusal 7: the question has over 1,024 bytes.
abbrev pub TooLong : List ℕ → Type 0
TooLong text = most_text < length text

-- Refusal 8: the question does not follow the notation.
abbrev pub NotFollowing : List ℕ → Type 0
NotFollowing text = Follows text → ⊥

-- Refusal 9: it follows it with over 32 steps or brackets over 8 deep.
abbrev pub TooLarge : List ℕ → Type 0
TooLarge text = (f : Follows text) × ((most_steps < steps f.tree) ⊎ (most_depth < depth f.tree))
