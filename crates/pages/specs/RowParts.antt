-- What the page loop writes.
use Rattle.std.specs.Prelude.{ℕ, ◌≡◌, List, length, take, drop}
use Rattle.std.proofs.Math.Seq.{paste}
use Rattle.meaning.specs.Picks.{Asked, Evidence}

-- w is the part of record i's evidence that has `width` positions, those of the steps from `step` on. Both calls write such parts: the
-- answer call that of the returned step alone, the evidence call the whole row.
abbrev pub PartOf : Asked → ℕ → ℕ → ℕ → List ℕ → Type 0
PartOf a step width i w = (row : List ℕ) × Evidence a i row × (w ≡ take width (drop step row))

-- A part is written to a buffer at `to`, all of it, and all else is left. It is a record, so that a proof takes the part and its place from the
-- code, and shows what they are: another part is refused at that.
pub record Put (out : List ℕ) (to : ℕ) (part new : List ℕ) : Type 0 where
  pub is : new ≡ paste out to part (length part)
