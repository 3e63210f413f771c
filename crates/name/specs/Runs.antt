-- How many characters of a name a list of bytes begins with.
use Rattle.std.specs.Prelude.{ℕ, suc, cond, List, [], ◌∷◌}
use Rattle.meaning.specs.Names.{initial, further}

-- How many characters the list begins with that may stand behind a name's first.
unfoldable pub run : List ℕ → ℕ
run [] = 0
run (c ∷ cs) = cond (further c) (suc (run cs)) 0

-- How many characters of a name the list begins with, of which the first may begin a name; 0 where it begins with none.
unfoldable pub name_run : List ℕ → ℕ
name_run [] = 0
name_run (c ∷ cs) = cond (initial c) (suc (run cs)) 0
