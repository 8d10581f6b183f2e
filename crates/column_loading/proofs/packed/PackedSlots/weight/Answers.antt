use Rattle.std.proofs.Common.{arith}
use Rattle.column_loading.specs.Packed.{routing_in}
use Rattle.column_loading.proofs.Packing.{length-is, weight-at}
use Rattle.column_loading.proofs.packed.PackedSlots.weight.Goals as goal

pub index-requires : goal.index-requires
index-requires c =
    let inside = c.self.inside in
    omega (arith, c.requires, length-is (routing_in inside.routings) inside.ids inside.sources inside.weights.items c.self.invariant c.args.self.now c.self.view_is, inside.weights.ok.0)

pub returns : goal.returns
returns c =
    let inside = c.self.inside in
    weight-at (routing_in inside.routings) inside.ids inside.sources inside.weights.items c.self.invariant c.args.self.now c.self.view_is c.args.place c.requires _ c.index.result.now c.index.ensures
