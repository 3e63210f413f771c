-- The limits of document 01. Each is an associated constant of the kind that it limits, in `src/lib.rt`, where a function is proved to
-- give the number that stands here.
use Rattle.std.specs.Prelude.{ℕ}

-- Most tags of an index.
abbrev pub most_tags : ℕ
most_tags = 256

-- Most labels of an index, all lists together.
abbrev pub most_labels : ℕ
most_labels = 1_048_576

-- Most labels that lie each inside the one before.
abbrev pub most_nested : ℕ
most_nested = 64

-- Most characters of a name.
abbrev pub most_name : ℕ
most_name = 16

-- Most bytes of a question's text.
abbrev pub most_text : ℕ
most_text = 1_024

-- Most steps of a question.
abbrev pub most_steps : ℕ
most_steps = 32

-- Most brackets that stand one in the other.
abbrev pub most_depth : ℕ
most_depth = 8
