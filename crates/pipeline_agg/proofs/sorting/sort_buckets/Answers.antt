use Rattle.std.proofs.Common.{rules}
use Rattle.std.proofs.lemmas.Result.{on_ok_weaker}
use Rattle.agg_spec.specs.Pipelines.{bucket_sort_cmp}
use Rattle.bucket_order.specs.Kinds.{child_kinds}
use Rattle.list_laws.proofs.StableSort.{sorted_from_sort_by}
use Rattle.pipeline_agg.proofs.TotalLaws.{remarked_total}
use Rattle.pipeline_agg.proofs.sorting.sort_buckets.Goals as goal

pub returns : goal.returns
returns c =
    let kinds = child_kinds c.args.children.now in
    on_ok_weaker c.sort_by.result
    (λ up. sorted_from_sort_by (λ a b. bucket_sort_cmp kinds c.args.sort.now a.bucket b.bucket) (remarked_total kinds c.args.sort.now) _ _ up c.sort_by.ensures.stable (λ a r f k. search rules))
    c.sort_by.ensures.sorted
