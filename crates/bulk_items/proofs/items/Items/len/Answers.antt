use Rattle.std.proofs.Common.{arith}
use Rattle.bulk_items.specs.Items.{refusal_in}
use Rattle.bulk_items.proofs.Keeping.{length-is}
use Rattle.bulk_items.proofs.items.Items.len.Goals as goal

pub returns : goal.returns
returns c =
    let inside = c.self.inside in
    omega (arith, length-is (refusal_in inside.refusals) inside.ids inside.marks.items c.self.invariant c.args.self.now c.self.view_is, c.len.ensures, inside.marks.ok.0)
