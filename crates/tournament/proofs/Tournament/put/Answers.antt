-- `put` meets its contract: each part is a lemma of Playing or Leaves.
use Rattle.std.proofs.Common.{◌≡◌, refl, ap, length, arith}
use Rattle.meaning.specs.Bytes.{at}
use Rattle.tournament.specs.Tournament.{Put, Bracket}
use Rattle.tournament.proofs.Playing.{playing_begin, playing_on, playing_end, lesser_min}
use Rattle.tournament.proofs.Leaves.{leaves_long, leaves_put, least_of}
use Rattle.tournament.proofs.Tournament.put.Goals as goal

pub loop-i-init : goal.loop-i-init
loop-i-init c =
    let long = leaves_long _ _ c.self.invariant.few c.self.invariant.tree.long in record {
      same = refl;
      playing = playing_begin _ _ _ _ c.self.invariant.few (omega (arith, long, ap length c.self.view_is)) c.self.invariant.tree;
    }

pub loop-i-preserved : goal.loop-i-preserved
loop-i-preserved c = record {
  same = c.loop-i.invariant.same;
  playing = playing_on _ _ _ _ _ _ _ _ _ c.loop-i.invariant.playing c.loop-i-test.true c.beside.ensures (rw c.min-best.ensures (lesser_min _ _));
}

-- The loop ends at the root.
ended : (c : goal.After-loop-i) → Put c.self.inside.players c.args.player c.args.number c.self.inside.nodes c.loop-i.self-inside.nodes × (c.loop-i.best ≡ at c.loop-i.self-inside.nodes 1)
ended c = playing_end _ _ _ _ _ _ _ c.loop-i.invariant.playing c.loop-i-test.false

-- So the nodes are those of a tournament again.
bracket : (c : goal.After-loop-i) → Bracket c.loop-i.self-inside.players c.loop-i.self-inside.nodes
bracket c = rw c.loop-i.invariant.same (record { few = c.self.invariant.few; tree = (ended c).0.tree })

pub invariant_of-self : goal.invariant_of-self
invariant_of-self c = bracket c

pub returns-clause-set : goal.returns-clause-set
returns-clause-set c =
    let long = leaves_long _ _ c.self.invariant.few c.self.invariant.tree.long in
    rw (c.loop-i.invariant.same, ← c.self.view_is) (leaves_put _ _ _ _ _ c.self.invariant (omega (arith, long, ap length c.self.view_is)) (ended c).0)

pub returns-clause-least : goal.returns-clause-least
returns-clause-least c = least_of _ _ _ (bracket c) (λ _. (ended c).1) (λ z. absurd (omega (arith, c.loop-i.invariant.playing.i_lt, c.loop-i.invariant.same)))
