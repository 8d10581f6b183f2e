use Rattle.std.proofs.Common.{◌≤◌, ℕ, List, Some, length, sym, ◌∙◌, ap, arith, rules}
use Rattle.std.specs.List.{slice_range}
use Rattle.packed_texts.proofs.Cutting.{IsAt, length-is, piece-at}
use Rattle.packed_texts.proofs.bytes.PackedBytes.get.Goals as goal
use Rattle.packed_texts.proofs.bytes.PackedBytes.get.Goals.{After-index}

pub index-requires : goal.index-requires
index-requires c =
    let inside = c.self.inside in
    omega (arith, c.requires, length-is inside.bytes.items inside.ends.items c.args.self.now c.self.view_is, inside.ends.ok.0)

here : (c : After-index) → IsAt c.self.inside.bytes.items c.args.self.now c.args.place c.index.result.now
here c = piece-at c.self.inside.bytes.items c.self.inside.ends.items c.args.self.now c.self.view_is c.self.invariant c.args.place c.index.result.now c.requires c.index.ensures

in-order : (c : After-index) → c.start.result ≤ c.index.result.now
in-order c = let in_order = (here c).in_order in omega (arith, in_order, c.start.ensures)

pub slice_bounds-result-count : goal.slice_bounds-result-count
slice_bounds-result-count c = in-order (goal.at.slice_bounds-result-count c).After-index

pub slice_bounds-result-start : goal.slice_bounds-result-start
slice_bounds-result-start c = let in_order = in-order (goal.at.slice_bounds-result-start c).After-index in search (rules, in_order)

pub slice_bounds-result-end : goal.slice_bounds-result-end
slice_bounds-result-end c =
    let low = (here (goal.at.slice_bounds-result-end c).After-index).inside in
    let inside : c.index.result.now ≤ length c.deref.result.now = omega (arith, low, ap (λ (bs : List ℕ). length bs) c.deref.ensures.value) in
    search (rules, inside)

pub returns : goal.returns
returns c =
    let at = (goal.at.returns c).After-index in
    (here at).piece ∙ sym (λ i. Some (slice_range (c.deref.ensures.value i) (c.start.ensures i) c.index.result.now))
