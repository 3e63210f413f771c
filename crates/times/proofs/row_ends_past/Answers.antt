-- The lists of an index whose table of contents is right lie within it.
use Rattle.std.proofs.Common.{◌≡◌, arith}
use Rattle.meaning.specs.Day.{row_list}
use Rattle.times.proofs.row_ends_past.Goals as goal

pub ends_past-requires : goal.ends_past-requires
ends_past-requires c =
    let b = c.args.contents.index.now in
    let at_r : c.row.result.number ≡ c.args.r = omega (arith, c.row.ensures.number) in
    let list_is : c.list.result ≡ row_list b c.args.r = cc at_r in
    rw list_is (c.args.contents.placed.held _ c.requires)

pub returns : goal.returns
returns c =
    let b = c.args.contents.index.now in
    let at_r : c.row.result.number ≡ c.args.r = omega (arith, c.row.ensures.number) in
    let list_is : c.list.result ≡ row_list b c.args.r = cc at_r in
    rw list_is at c.ends_past.ensures
