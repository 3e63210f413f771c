-- What is asked where a step or a `]` is read at a place of the text, and what reading it promises.
use Rattle.std.specs.Prelude.{ℕ, ◌+◌, ◌≤◌, ◌<◌, ◌≡◌, List, ◌∷◌, ◌++◌, length, drop, Option, Some, None, Result, Ok, Err}
use Rattle.meaning.specs.Limits.{most_text, most_steps}
use Rattle.meaning.specs.Names.{Name}
use Rattle.meaning.specs.Ends.{NoFurther}
use Rattle.draft.specs.declared.Broken.{Broken}
use Rattle.draft.specs.declared.Draft.{Draft}
use Rattle.draft.specs.Drafts.{moved, stepped}

-- The number that a step hangs from fits its field.
abbrev pub Narrow : Option ℕ → Type 0
Narrow None = Unit
Narrow (Some i) = i < 256

-- What is asked for a step more, of which the name has so many bytes and which hangs from number `hang`: the draft has 32 entries, the
-- text is not too long, and the numbers fit their fields where the step will be kept.
pub record Space (bytes : ℕ) (hang : Option ℕ) (q : Draft) : Type 0 where
  pub room : length q.steps ≡ most_steps
  pub few : q.count < most_text
  pub short : q.at + 2 + bytes ≤ most_text
  pub narrow : q.count < most_steps → Narrow hang

-- What is asked where the reading goes on, d brackets deep, with a step that hangs from number `hang`: the text is not
-- too long, the draft has 32 entries and is within the text, each of its steps and each open bracket has taken a byte, and the number
-- fits its field where the step will be kept.
pub record MayRead (t : List ℕ) (hang : Option ℕ) (d : ℕ) (q : Draft) : Type 0 where
  pub short : length t ≤ most_text
  pub room : length q.steps ≡ most_steps
  pub within : q.at ≤ length t
  pub few : q.count ≤ q.at
  pub shallow : d ≤ q.at
  pub narrow : q.count < most_steps → Narrow hang

-- A step, `//` and a name, stands at place `at` of the text and ends at place e.
pub record FoundStep (t : List ℕ) (at e : ℕ) : Type 0 where
  pub name : List ℕ
  pub proper : Name name
  pub text : drop at t ≡ 47 ∷ 47 ∷ name ++ drop e t
  pub stop : e ≡ at + 2 + length name
  pub within : e ≤ length t
  pub halts : NoFurther (drop e t)

-- No step stands at place `at`.
abbrev pub NoStep : List ℕ → ℕ → Type 0
NoStep t at = (n s : List ℕ) → Name n → NoFurther s → drop at t ≡ 47 ∷ 47 ∷ n ++ s → ⊥

-- The length of the name of the step at `at`, or none where no step stands there.
pub data LengthAt (t : List ℕ) (at : ℕ) : Option ℕ → Type 0 where
  long : {r : ℕ} → FoundStep t at (at + 2 + r) → LengthAt t at (Some r)
  none : NoStep t at → LengthAt t at None

-- Reading a step hands on the draft behind the step, or nothing where no step stands.
pub data StepRead (t : List ℕ) (hang : Option ℕ) (d : ℕ) (q : Draft) : Result Draft Broken → Type 0 where
  taken : {r : Draft} (f : FoundStep t q.at r.at) → r ≡ stepped q hang d f.name → StepRead t hang d q (Ok r)
  missing : {b : Broken} → NoStep t q.at → StepRead t hang d q (Err b)

-- A `]` stands at place `at`.
abbrev pub ShutAt : List ℕ → ℕ → Type 0
ShutAt t at = drop at t ≡ 93 ∷ drop (at + 1) t

-- Leaving a bracket hands on the draft behind the `]`, back in the path of step `me`, or nothing where no `]` stands.
pub data LeftBracket (t : List ℕ) (me : ℕ) (q : Draft) : Result Draft Broken → Type 0 where
  shut : {r : Draft} → ShutAt t q.at → r ≡ moved q (q.at + 1) me → LeftBracket t me q (Ok r)
  unshut : {b : Broken} → (ShutAt t q.at → ⊥) → LeftBracket t me q (Err b)
