use Rattle.std.proofs.Common.{◌∙◌}
use Rattle.partial_result.proofs.WholeLaws.{whole-two}
use Rattle.partial_result.proofs.merging.merge.Goals as goal

pub returns : goal.returns
returns c = record {
  whole = λ search pass pass' fits.
      (λ i. record { hits = c.saturating_add.ensures i; nodes = c.in_ok-merge_children.ensures i }) ∙ whole-two search c.args.into c.args.other pass pass' fits;
}
