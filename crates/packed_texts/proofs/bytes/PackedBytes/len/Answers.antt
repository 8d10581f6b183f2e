use Rattle.std.proofs.Common.{arith}
use Rattle.packed_texts.proofs.Cutting.{length-is}
use Rattle.packed_texts.proofs.bytes.PackedBytes.len.Goals as goal

pub returns : goal.returns
returns c = omega (arith, length-is c.self.inside.bytes.items c.self.inside.ends.items c.args.self.now c.self.view_is, c.len.ensures, c.self.inside.ends.ok.0)
