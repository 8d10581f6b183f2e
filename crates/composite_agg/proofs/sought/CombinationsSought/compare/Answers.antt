use Rattle.std.proofs.Common.{◌∙◌}
use Rattle.bucket_order.specs.Composites.{any_parts_cmp}
use Rattle.composite_agg.specs.Odometer.{shown_parts}
use Rattle.composite_agg.proofs.Shown.{of-many}
use Rattle.composite_agg.proofs.sought.CombinationsSought.compare.Goals as goal

pub returns : goal.returns
returns c =
    c.compare_parts.ensures
    ∙ (λ i. any_parts_cmp (c.as_slice.ensures i) (c.parts_of.ensures i) (shown_parts (c.as_slice-2.ensures.value i)))
    ∙ of-many c.args.sources.now c.args.other.now (shown_parts c.args.self.now.wheels.items)
