use Rattle.std.proofs.Common.{◌∙◌}
use Rattle.packed_texts.proofs.Cutting.{total-is}
use Rattle.packed_texts.proofs.bytes.PackedBytes.total.Goals as goal

pub returns : goal.returns
returns c =
    let inside = c.self.inside in
    c.len.ensures ∙ (inside.bytes.ok.0 ∙ total-is inside.bytes.items inside.ends.items c.args.self.now c.self.view_is c.self.invariant)
