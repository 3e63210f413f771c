-- What keeps the loop of `put`: node i holds `best`, and every node but the one above i is right.
use Rattle.std.proofs.Common.{◌≡◌}
use Rattle.tournament.proofs.Playing.{Playing}
use Rattle.tournament.proofs.Tournament.put.Given as goal

abbrev pub invariant-loop-i : goal.invariant-loop-i
invariant-loop-i l = record {
  same : l.self-inside.players ≡ l.initial.self-inside.players;
  playing : Playing l.initial.self-inside.players l.player l.number l.initial.self-inside.nodes l.i l.best l.self-inside.nodes;
}

abbrev pub decreases-loop-i : goal.decreases-loop-i
decreases-loop-i l = l.i
