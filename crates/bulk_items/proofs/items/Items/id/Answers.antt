use Rattle.std.proofs.Common.{arith, sym}
use Rattle.bulk_items.specs.Items.{refusal_in}
use Rattle.bulk_items.proofs.Keeping.{id-at, length-is}
use Rattle.bulk_items.proofs.items.Items.id.Goals as goal

pub get-requires : goal.get-requires
get-requires c =
    let inside = c.self.inside in
    omega (arith, c.requires, length-is (refusal_in inside.refusals) inside.ids inside.marks.items c.self.invariant c.args.self.now c.self.view_is, c.self.invariant.paired)

pub returns : goal.returns
returns c =
    let inside = c.self.inside in
    sym (id-at (refusal_in inside.refusals) inside.ids inside.marks.items c.self.invariant c.args.self.now c.self.view_is c.args.place c.requires c.get.result.now _ c.get.ensures)
