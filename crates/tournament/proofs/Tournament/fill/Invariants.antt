-- What keeps the loop of `fill`: the first j players have the numbers that were given for them.
use Rattle.std.proofs.Common.{ℕ, ◌≡◌, ◌+◌, ◌<◌, length}
use Rattle.meaning.specs.Bytes.{at}
use Rattle.tournament.specs.Tournament.{nodes}
use Rattle.tournament.proofs.Tournament.fill.Given as goal

abbrev pub invariant-loop-j : goal.invariant-loop-j
invariant-loop-j g l = record {
  same : l.self-inside.players ≡ l.initial.self-inside.players;
  long : length l.self-inside.nodes ≡ nodes;
  given : (k : ℕ) → k < l.j → goal.F-post g l.number k (at l.self-inside.nodes (l.initial.self-inside.players + k));
}
