-- The lists' keys, which are the numbers of a walk's tournament.
use Rattle.std.specs.Prelude.{ℕ, ◌+◌, ◌*◌, ◌≤◌, ◌<◌, ◌≡◌, List, length}
use Rattle.meaning.specs.Bytes.{at}
use Rattle.meaning.specs.Limits.{most_tags}
use Rattle.meaning.specs.Labels.{Lists}
use Rattle.tournament.specs.Tournament.{past}

-- The key of list r at position p: its start there and then its number, or one past all such keys when it has no label there.
pub record Key (t : Lists) (r p v : ℕ) : Type 0 where
  pub some : p < t.count r → v ≡ most_tags * (t.label r p).start + r
  pub small : p < t.count r → v < past
  pub none : t.count r ≤ p → v ≡ past

-- The lists' keys at their cursors, one for each list.
pub record Keys (t : Lists) (pos : ℕ → ℕ) (xs : List ℕ) : Type 0 where
  pub many : length xs ≡ t.many
  pub key : (r : ℕ) → r < t.many → Key t r (pos r) (at xs r)
