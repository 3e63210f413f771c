-- `lines::Line::push` meets its contract: behind one byte more there are zeros still.
use Rattle.std.proofs.Common.{◌<◌, ap, length, arith}
use Rattle.lines.specs.Adding.{most_line}
use Rattle.lines.specs.Memory.{used_back}
use Rattle.lines.proofs.MemoryLaws.{holds_more}
use Rattle.lines.proofs.Line.push.Goals as goal

pub invariant_of-self : goal.invariant_of-self
invariant_of-self c =
    let room : c.self.inside.used < most_line = omega (arith, ap length c.self.view_is, used_back c.self.invariant) in
    holds_more c.self.invariant c.args.byte room (omega arith)
