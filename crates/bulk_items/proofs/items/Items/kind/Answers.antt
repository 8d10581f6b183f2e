use Rattle.std.proofs.Common.{arith, sym}
use Rattle.bulk_items.specs.Items.{refusal_in}
use Rattle.bulk_items.proofs.Keeping.{kind-at, length-is}
use Rattle.bulk_items.proofs.items.Items.kind.Goals as goal

pub index-requires : goal.index-requires
index-requires c =
    let inside = c.self.inside in
    omega (arith, c.requires, length-is (refusal_in inside.refusals) inside.ids inside.marks.items c.self.invariant c.args.self.now c.self.view_is, inside.marks.ok.0)

pub returns : goal.returns
returns c =
    let inside = c.self.inside in
    sym (kind-at (refusal_in inside.refusals) inside.ids inside.marks.items c.self.invariant c.args.self.now c.self.view_is c.args.place c.requires c.index.result.now c.index.ensures _)
