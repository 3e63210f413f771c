-- What reading a path promises: the draft behind the path that stands there, or that none does.
use Rattle.std.specs.Prelude.{ℕ, ◌+◌, ◌≡◌, List, drop, Option, Result, Ok, Err}
use Rattle.meaning.specs.Notation.{Path, After, write, write_after, Named, NamedAfter, depth, depth_after, last_step, last_after}
use Rattle.meaning.specs.Ends.{Stops}
use Rattle.draft.specs.declared.Broken.{Broken}
use Rattle.draft.specs.declared.Draft.{Draft}
use Rattle.draft.specs.Drafts.{grown}
use Rattle.path.specs.Stored.{size, size_after, stored, stored_after}

-- The draft behind a path that stands where q is, in d brackets, and whose first step hangs from number `hang`, or from nothing.
abbrev pub walked : Draft → Option ℕ → ℕ → Path → Draft
walked q hang d p = grown q (stored p hang q.count q.at) (d + depth p) (q.at + size p) (last_step p q.count)

-- The draft behind what follows the name of the step that q has named last.
abbrev pub followed : Draft → ℕ → After → Draft
followed q d a = grown q (stored_after a q.last q.count q.at) (d + depth_after a) (q.at + size_after a) (last_after a q.last q.count)

-- From q on the text has what follows the name of step `last`, in d brackets, up to where q' is.
pub record Reach (t : List ℕ) (d : ℕ) (q q' : Draft) : Type 0 where
  pub follow : After
  pub named : NamedAfter follow
  pub text : drop q.at t ≡ write_after follow (drop q'.at t)
  pub halts : Stops (drop q'.at t)
  pub gives : q' ≡ followed q d follow

-- From q on the text has a path, in d brackets, whose first step hangs from `hang`, up to where q' is.
pub record ReachPath (t : List ℕ) (hang : Option ℕ) (d : ℕ) (q q' : Draft) : Type 0 where
  pub tree : Path
  pub named : Named tree
  pub text : drop q.at t ≡ write tree (drop q'.at t)
  pub halts : Stops (drop q'.at t)
  pub gives : q' ≡ walked q hang d tree

-- Reading a path hands on the draft behind the path, or nothing where no path stands.
pub data PathRead (t : List ℕ) (hang : Option ℕ) (d : ℕ) (q : Draft) : Result Draft Broken → Type 0 where
  whole : {r : Draft} → ReachPath t hang d q r → PathRead t hang d q (Ok r)
  torn : {b : Broken} → ((r : Draft) → ReachPath t hang d q r → ⊥) → PathRead t hang d q (Err b)
