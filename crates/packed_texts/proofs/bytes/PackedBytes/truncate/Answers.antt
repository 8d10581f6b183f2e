use Rattle.std.proofs.Common.{◌≡◌, ℕ, length, take, ◌∙◌, ap, arith}
use Rattle.packed_texts.specs.Pieces.{AreCut, pieces_from}
use Rattle.packed_texts.proofs.Cutting.{first-of}
use Rattle.packed_texts.proofs.bytes.PackedBytes.truncate.Goals as goal
use Rattle.packed_texts.proofs.bytes.PackedBytes.truncate.Goals.{After-truncate-2}

-- those that are left
left : (c : After-truncate-2) → (pieces_from 0 c.truncate.new.self.items c.truncate-2.new.self.items ≡ take c.args.len c.args.self.now) × AreCut 0 c.truncate-2.new.self.items (length c.truncate.new.self.items)
left c =
    let inside = c.self.inside in
    let bytes = c.truncate.ensures.items ∙ ap (λ (k : ℕ). take k inside.bytes.items) c.start-size.ensures in
    first-of inside.bytes.items inside.ends.items c.args.self.now c.self.view_is c.self.invariant c.args.len (omega (arith, c.if-len.false, c.len.ensures)) c.truncate.new.self.items c.truncate-2.new.self.items bytes c.truncate-2.ensures.items

pub invariant_of-self : goal.invariant_of-self
invariant_of-self c = (left c).1

pub returns : goal.returns
returns c = (left c).0
