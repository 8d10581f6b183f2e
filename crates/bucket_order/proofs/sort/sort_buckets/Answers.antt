use Rattle.std.proofs.Common.{rules}
use Rattle.std.proofs.lemmas.Result.{on_ok_weaker}
use Rattle.agg_evaluation.specs.Orders.{bucket_cmp}
use Rattle.bucket_order.specs.Kinds.{child_kinds}
use Rattle.list_laws.proofs.StableSort.{sorted_from_sort_by}
use Rattle.bucket_order.proofs.TotalLaws.{bucket_cmp_total}
use Rattle.bucket_order.proofs.sort.sort_buckets.Goals as goal

pub returns-clause-sorted : goal.returns-clause-sorted
returns-clause-sorted c =
    let kinds = child_kinds c.args.children.now in
    on_ok_weaker c.sort_by.result
    (λ up. sorted_from_sort_by (bucket_cmp kinds c.args.orders.now) (bucket_cmp_total kinds c.args.orders.now) _ _ up c.sort_by.ensures.stable (λ a r f k. search rules))
    c.sort_by.ensures.sorted
