-- `lines::Line::push_number` meets its contract: as many digits as the number has are written behind what was written, and behind these there
-- are zeros still.
use Rattle.std.proofs.Common.{ap, ap₂, ◌∙◌, ◌≡◌, ◌+◌, ◌-◌, ◌++◌, ◌≤◌, length, arith}
use Rattle.meaning.specs.Printing.{digits}
use borrow.Rule.Slice.PartMut.{mid_of, mid_len}
use Rattle.std.proofs.lemmas.Slice.{take-put_mid}
use Rattle.lines.specs.Adding.{most_line}
use Rattle.lines.specs.Memory.{used_back}
use Rattle.lines.proofs.DigitLaws.{number_of}
use Rattle.lines.proofs.MemoryLaws.{holds_part}
use Rattle.lines.proofs.Line.push_number.Goals as goal

pub returns : goal.returns
returns c =
    let used = c.self.inside.used in
    let bytes = c.self.inside.bytes in
    let end = used + c.places.result in
    let room : end ≤ length bytes = omega (arith, ap length c.self.view_is, used_back c.self.invariant, c.places.ensures.most) in
    let part : length (mid_of used (end - used) bytes) ≡ c.places.result = mid_len used end bytes room ∙ omega arith in
    let whole : c.put_digits.new.bytes ≡ digits c.places.result c.args.n = c.put_digits.ensures ∙ ap (λ k. digits k c.args.n) part in
    let long : length c.put_digits.new.bytes ≡ c.places.result = c.put_digits.auto.bytes ∙ part in
    let behind = take-put_mid used _ bytes c.put_digits.new.bytes end (omega (arith, long)) (omega arith) in
    number_of c.places.ensures (behind ∙ ap₂ (λ a b. a ++ b) c.self.view_is whole)

pub invariant_of-self : goal.invariant_of-self
invariant_of-self c =
    let used = c.self.inside.used in
    let bytes = c.self.inside.bytes in
    let end = used + c.places.result in
    let room : end ≤ most_line = omega (arith, ap length c.self.view_is, used_back c.self.invariant, c.places.ensures.most) in
    let long : length c.put_digits.new.bytes ≡ end - used = c.put_digits.auto.bytes ∙ mid_len used end bytes (omega (arith, c.self.invariant.whole)) in
    holds_part c.self.invariant end c.put_digits.new.bytes (omega arith) room (omega arith) long
