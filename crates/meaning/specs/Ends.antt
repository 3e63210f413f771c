-- Where a name and where a path can end in a text: not of document 01, but of the contracts of what reads a name or a question.
use Rattle.std.specs.Prelude.{ℕ, ◌≡◌, false, List, [], ◌∷◌}
use Rattle.meaning.specs.Names.{further}

-- The text does not go on with a character of a name: it is at its end, or its first byte may not stand in a name.
abbrev pub NoFurther : List ℕ → Type 0
NoFurther [] = Unit
NoFurther (c ∷ cs) = further c ≡ false

-- A path ends before this text: it is empty, or it goes on with `]`.
abbrev pub Stops : List ℕ → Type 0
Stops [] = Unit
Stops (c ∷ cs) = c ≡ 93
