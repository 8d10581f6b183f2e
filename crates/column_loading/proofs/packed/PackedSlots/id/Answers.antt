use Rattle.std.proofs.Common.{arith, sym}
use Rattle.column_loading.specs.Packed.{routing_in}
use Rattle.column_loading.proofs.Packing.{id-at, length-is}
use Rattle.column_loading.proofs.packed.PackedSlots.id.Goals as goal

pub get-requires : goal.get-requires
get-requires c =
    let inside = c.self.inside in
    omega (arith, c.requires, length-is (routing_in inside.routings) inside.ids inside.sources inside.weights.items c.self.invariant c.args.self.now c.self.view_is, c.self.invariant.has_ids)

pub returns : goal.returns
returns c =
    let inside = c.self.inside in
    sym (id-at (routing_in inside.routings) inside.ids inside.sources inside.weights.items c.self.invariant c.args.self.now c.self.view_is c.args.place c.requires _ c.get.result.now c.get.ensures)
