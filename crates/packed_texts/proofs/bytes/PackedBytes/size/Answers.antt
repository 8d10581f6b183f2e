use Rattle.std.proofs.Common.{ℕ, ◌-◌, Some, sym, ◌∙◌, ap, arith}
use Rattle.packed_texts.proofs.Cutting.{IsAt, length-is, piece-at, size-at}
use Rattle.packed_texts.proofs.bytes.PackedBytes.size.Goals as goal
use Rattle.packed_texts.proofs.bytes.PackedBytes.size.Goals.{After-start}

pub index-requires : goal.index-requires
index-requires c =
    let inside = c.self.inside in
    omega (arith, c.requires, length-is inside.bytes.items inside.ends.items c.args.self.now c.self.view_is, inside.ends.ok.0)

here : (c : After-start) → IsAt c.self.inside.bytes.items c.args.self.now c.args.place c.index.result.now
here c = piece-at c.self.inside.bytes.items c.self.inside.ends.items c.args.self.now c.self.view_is c.self.invariant c.args.place c.index.result.now c.requires c.index.ensures

pub overflow_sub-result : goal.overflow_sub-result
overflow_sub-result c = let in_order = (here c).in_order in omega (arith, in_order, c.start.ensures)

pub returns : goal.returns
returns c =
    let at = (goal.at.returns c).After-start in
    let inside = c.self.inside in
    size-at inside.bytes.items inside.ends.items c.args.self.now c.self.view_is c.self.invariant c.args.place c.index.result.now (here at) ∙ ap (λ (k : ℕ). Some (c.index.result.now - k)) (sym c.start.ensures)
