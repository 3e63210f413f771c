-- `put_row` meets its contract: what is written is the part, number by number.
use Rattle.std.proofs.Common.{length, drop, refl, arith, ◌+◌, ◌-◌, length-drop}
use Rattle.std.proofs.Math.Seq.{ext_get_or}
use Rattle.std.proofs.lemmas.List.{length-take}
use Rattle.std.proofs.lemmas.Slice.{put_mid-paste}
use Rattle.pages.proofs.put_row.Goals as goal

pub returns : goal.returns
returns c =
    let a = c.args in
    let held = length-take (a.to + length a.part.now - a.to) (drop a.to a.out.now) in
    let room = length-drop a.to a.out.now in
    record {
      is = put_mid-paste a.to _ a.out.now c.loop-i.row a.part.now (length a.part.now)
          (ext_get_or 0 c.loop-i.row a.part.now (omega (arith, held, room)) (λ i l. c.loop-i.invariant i (omega (arith, held, room)))) (omega arith) refl;
    }
