use Rattle.std.proofs.Common.{◌∙◌, ap, arith}
use Rattle.std.specs.Prelude.{sum_by}
use Rattle.list_laws.proofs.Sums.{sum_by-sorted, sum_by-take}
use Rattle.list_laws.specs.Sorting.{sorted}
use Rattle.agg_evaluation.specs.Orders.{bucket_cmp, bucket_count}
use Rattle.bucket_order.specs.Kinds.{child_kinds}
use Rattle.terms_agg.proofs.trimming.trim_buckets.Goals as goal

pub total_count-requires : goal.total_count-requires
total_count-requires c =
    let cmp = bucket_cmp (child_kinds c.args.children.now) c.args.order.now in
    let all = c.args.buckets.items in
    omega (
      arith,
      ap (sum_by bucket_count) (c.as_slice-2.ensures.value ∙ c.in_ok-kept.ensures),
      sum_by-take bucket_count c.args.shard_size (sorted cmp all),
      sum_by-sorted bucket_count cmp all,
      c.requires,
      c.ranges.total.fits,
    )

pub overflow_sub-cut : goal.overflow_sub-cut
overflow_sub-cut c =
    let cmp = bucket_cmp (child_kinds c.args.children.now) c.args.order.now in
    let all = c.args.buckets.items in
    omega (
      arith,
      ap (sum_by bucket_count) (c.as_slice-2.ensures.value ∙ c.in_ok-kept.ensures),
      sum_by-take bucket_count c.args.shard_size (sorted cmp all),
      sum_by-sorted bucket_count cmp all,
      c.requires,
    )
