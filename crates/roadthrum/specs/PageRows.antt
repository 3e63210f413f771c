-- The rows that the evidence call gave.
use Rattle.std.specs.Prelude.{ℕ, ◌+◌, ◌*◌, ◌≤◌, ◌<◌, List, length, Ok, Option, IfSome}
use Rattle.meaning.specs.Limits.{most_steps}
use Rattle.meaning.specs.Bytes.{at}
use Rattle.meaning.specs.declared.Page.{Page}
use Rattle.meaning.specs.Notation.{Follows, steps}
use Rattle.meaning.specs.Refusals.{Clear, question_table}
use Rattle.meaning.specs.Promises.{Shown}

-- The evidence call, from some place on and with some buffer lent, gave this page and left the buffer so.
pub record PageGiven (b text rows : List ℕ) (r : Page) : Type 0 where
  pub place : ℕ
  pub entry : List ℕ
  pub shown : Shown b text place entry rows (Ok r)

-- The number, if there is one, is that of a step of the question that is read from the text.
pub record Tells (text : List ℕ) (unknown : Option ℕ) : Type 0 where
  pub read : Clear (question_table text)
  pub follows : Follows text
  pub step : IfSome unknown (λ s. s < steps follows.tree)

-- A row of as many list positions as there are offsets stands in `rows` from `from` on, and each is a label within the index, where the offsets
-- say where each step's body begins.
pub record RowAt (b offsets rows : List ℕ) (from : ℕ) : Type 0 where
  pub some : 1 ≤ length offsets
  pub few : length offsets ≤ most_steps
  pub ended : from + length offsets ≤ length rows
  pub labels : (s : ℕ) → s < length offsets → at offsets s + 8 * at rows (from + s) + 8 ≤ length b
