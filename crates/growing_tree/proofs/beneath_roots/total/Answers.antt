use Rattle.std.proofs.Common.{◌≡◌, ◌<◌, ◌∙◌, sym, ap, arith, length}
use Rattle.growing_tree.proofs.beneath_roots.total.Goals as goal

pub loop-place-init : goal.loop-place-init
loop-place-init c = record { ordered = omega (arith, c.if-start-end.false); costs = λ cost_at h. omega arith }

pub loop-place-preserved : goal.loop-place-preserved
loop-place-preserved c =
    let place = c.loop-place.place in
    let below : place < length c.args.amounts.now = omega (arith, c.if-place-amounts.false) in
    record {
      ordered = omega (arith, c.loop-place-test.true);
      costs = λ cost_at h.
          let so_far = c.loop-place.invariant.costs cost_at h in
          let here = h place below in
          let more = c.in_ok-total.ensures in
          omega arith;
    }

pub returns : goal.returns
returns c = λ cost_at h.
    let last : c.loop-place.place ≡ c.args.end = omega (arith, c.loop-place.invariant.ordered, c.loop-place-test.false) in
    ap cost_at (sym last) ∙ c.loop-place.invariant.costs cost_at h
