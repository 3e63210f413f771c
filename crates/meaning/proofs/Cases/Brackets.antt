-- What brackets in a question say: what each step hangs from, which step is returned, how many there are, and how deep the brackets go.
use mathlib.Core.Path.{◌≡◌, refl}
use mathlib.Core.List.{List, [], ◌∷◌}
use Rattle.meaning.specs.Notation.{Path, path, finish, bracket, next, Hook, nothing, from, Step, steps, depth, list, step_list, last_step, returned_step}
use Rattle.meaning.proofs.Cases.SmallDay.{bytes}

-- What the steps hang from, in text order.
abbrev hooks : List Step → List Hook
hooks [] = []
hooks (s ∷ ss) = s.hook ∷ hooks ss

-- The tree of `//a[//b[//c]]//d[//e]`: brackets in a bracket, a step behind a bracket, and a bracket at the end.
abbrev reading : Path
reading =
    path (bytes "a") (bracket (path (bytes "b") (bracket (path (bytes "c") finish) finish)) (next (path (bytes "d") (bracket (path (bytes "e") finish) finish))))

-- The first step of a bracket hangs from the step that carries it, and d, which is behind a bracket, from a.
pub hooks_right : hooks (step_list reading) ≡ nothing ∷ from 0 ∷ from 1 ∷ from 0 ∷ from 3 ∷ []
unfolding list steps
hooks_right = refl

-- The last step outside all brackets is d.
pub returned_right : returned_step reading ≡ 3
unfolding last_step steps
returned_right = refl

-- It has five steps.
pub steps_right : steps reading ≡ 5
unfolding steps
steps_right = refl

-- Its brackets are two deep: the deeper of the two counts, wherever it stands.
pub depth_right : depth reading ≡ 2
unfolding depth
depth_right = refl
