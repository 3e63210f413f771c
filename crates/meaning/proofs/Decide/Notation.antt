-- Whether every name in a tree is a name, as a test that antt computes.
use mathlib.Core.Bool.{Bool, true, ◌&&◌}
use Rattle.meaning.specs.Answers.{Decides, holds}
use Rattle.meaning.specs.Names.{is_name}
use Rattle.meaning.specs.Notation.{Path, path, After, finish, bracket, next, Named, NamedAfter}
use Rattle.meaning.proofs.Decide.{true_decides, and_decides}

unfoldable mutual
  -- Every name in the tree is a name.
  pub named_b : Path → Bool
  named_b (path n a) = is_name n && named_after_b a

  -- The same of what follows a name.
  pub named_after_b : After → Bool
  named_after_b finish = true
  named_after_b (bracket p a) = named_b p && named_after_b a
  named_after_b (next p) = named_b p

mutual
  unfolding named_b

  -- The test decides it.
  pub named_decides : (p : Path) → Decides (Named p) (named_b p)
  named_decides (path n a) = and_decides (true_decides (is_name n)) (named_after_decides a)

  -- The same of what follows a name.
  pub named_after_decides : (a : After) → Decides (NamedAfter a) (named_after_b a)
  named_after_decides finish = holds tt
  named_after_decides (bracket p a) = and_decides (named_decides p) (named_after_decides a)
  named_after_decides (next p) = named_decides p
