use Rattle.std.proofs.Common.{arith}
use Rattle.column_loading.specs.Packed.{routing_in}
use Rattle.column_loading.proofs.Packing.{length-is}
use Rattle.column_loading.proofs.packed.PackedSlots.len.Goals as goal

pub returns : goal.returns
returns c =
    let inside = c.self.inside in
    omega (arith, length-is (routing_in inside.routings) inside.ids inside.sources inside.weights.items c.self.invariant c.args.self.now c.self.view_is, c.len.ensures, inside.weights.ok.0)
