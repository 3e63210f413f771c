-- `nesting_wrong` meets its contract: each turn keeps what holds of the sweep and of the table, and lowers the weight.
use Rattle.std.proofs.Common.{List, ℕ, ◌≡◌, refl, ap, subst, ◌∙◌}
use Rattle.std.specs.Borrow.{Bor}
use Rattle.meaning.specs.Day.{lists_of}
use Rattle.order.specs.Walk.{Foretells}
use Rattle.order.specs.Standing.{cursor, Standing}
use Rattle.day.proofs.Rounds.{round_begin, round_judged, round_close, round_open, open_less}
use Rattle.day.proofs.sweep.nesting_wrong.Goals as goal

pub begin-walk-requires : goal.begin-walk-requires
begin-walk-requires c = record { ascend = λ r i j l. (c.requires r l).ascending i j }

pub turns-init : goal.turns-init
turns-init c =
    let w = c.begin-walk.result in
    let same : w.index.now ≡ c.args.contents.index.now = ap (λ (x : Bor (List ℕ)). x.now) c.begin-walk.ensures.index in record {
      index = same;
      round = round_begin c.args.contents.index.now w.places w.keys c.comes_next-coming.result _ (subst (λ (b : List ℕ). Standing b w.places w.keys) same w.standing) c.begin-walk.ensures.begun
          (subst (λ (b : List ℕ). Foretells (lists_of b) (cursor b w.places) c.comes_next-coming.result) same c.comes_next-coming.ensures) refl;
    }

pub returns-in-Over : goal.returns-in-Over
returns-in-Over c =
    let i = c.turns.invariant in
    round_judged _ _ _ _ _ _ _ _ i.round c.requires i.index refl _ _ _ c.in-Over.ensures.turned

pub turns-preserved-in-Closed : goal.turns-preserved-in-Closed
turns-preserved-in-Closed c =
    let i = c.turns.invariant in record {
      index = ap (λ (x : Bor (List ℕ)). x.now) c.judge.ensures.index ∙ i.index;
      round = round_close _ _ _ _ _ _ _ _ i.round c.requires i.index refl _ _ _ c.in-Closed.ensures.turned;
    }

pub turns-smaller : goal.turns-smaller
turns-smaller c =
    let i = c.turns.invariant in
    open_less _ _ _ _ _ _ _ _ i.round c.requires i.index refl _ _ _ _ c.in-Opened.ensures.turned

pub turns-preserved : goal.turns-preserved
turns-preserved c =
    let i = c.turns.invariant in record {
      index = ap (λ (x : Bor (List ℕ)). x.now) c.judge.ensures.index ∙ i.index;
      round = rw c.push.ensures (round_open _ _ _ _ _ _ _ _ i.round c.requires i.index refl _ _ _ _ c.in-Opened.ensures.turned);
    }
