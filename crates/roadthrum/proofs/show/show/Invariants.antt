-- What keeps the loop: each page names a later place, and has no more rows than there can be labels.
use Rattle.std.proofs.Common.{◌*◌, ◌-◌, ◌≤◌, ◌<◌, ◌≡◌, length}
use Rattle.meaning.specs.Limits.{most_labels}
use Rattle.roadthrum.proofs.show.show.Given as goal

abbrev pub invariant-loop-page : goal.invariant-loop-page
invariant-loop-page g l = record {
  long : length l.rows ≡ 2048;
  fits : l.place < 4294967296;
  few : l.total ≤ most_labels * l.place;
}

abbrev pub decreases-loop-page : goal.decreases-loop-page
decreases-loop-page g l = 4294967296 - l.place
