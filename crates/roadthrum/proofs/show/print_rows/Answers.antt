-- `roadthrum::show::print_rows` may make its calls: the question is the one that the evidence call read, and each row is one of its page.
use Rattle.std.proofs.Common.{◌≡◌, ◌∙◌, length, take, length-take-le, get_or-take, arith, rules}
use Rattle.roadthrum.proofs.Accepted.{accepted, labelled}
use Rattle.roadthrum.proofs.show.print_rows.Goals as goal

pub invariant_of-day : goal.invariant_of-day
invariant_of-day g c = record { lawful = (accepted _ _ _ _ _ _ c.requires.given.shown).lawful }

pub draw-requires : goal.draw-requires
draw-requires g c = c.requires.asked

pub print_lines-requires : goal.print_lines-requires
print_lines-requires g c =
    let d = c.draw.ensures in
    let k = c.draw.result.0.count in
    let offsets = c.offsets_of-offsets.result in
    let all : length offsets ≡ 32 = search rules in
    labelled _ _ _ _ _ _ (accepted _ _ _ _ _ _ c.requires.given.shown) c.draw.result.0 (take k offsets) d.writes d.drawn (length-take-le k offsets (omega (arith, d.drawn.count_is, d.few)))
    (λ s l. get_or-take k offsets s 0 l ∙ c.offsets_of-offsets.ensures s (omega (arith, d.drawn.count_is, d.few)))
