use Rattle.std.proofs.Common.{rules, ◌∙◌}
use Rattle.std.specs.Prelude.{length}
use Rattle.std.proofs.lemmas.Result.{on_ok_weaker}
use Rattle.std.proofs.lemmas.Cmp.{on_total}
use Rattle.agg_model.specs.declared.partial.Bucket.{Bucket}
use Rattle.agg_evaluation.specs.Orders.{bucket_key, composite_cmp}
use Rattle.bucket_order.specs.Composites.{key_parts, any_parts_cmp}
use Rattle.agg_evaluation.specs.CompositeKeys.{is_composite_of}
use Rattle.list_laws.proofs.StableSort.{sorted_from_sort_by}
use Rattle.bucket_order.proofs.SameOrder.{sorted_same}
use Rattle.bucket_order.proofs.CompositeLaws.{any_parts_total, same_composites}
use Rattle.bucket_order.proofs.sort.sort_composites.Goals as goal

pub returns-clause-sorted : goal.returns-clause-sorted
returns-clause-sorted c =
    let sources = c.args.sources.now in
    on_ok_weaker c.sort_by.result
    (λ up.
    sorted_from_sort_by (λ a b. any_parts_cmp sources (key_parts (bucket_key a)) (key_parts (bucket_key b))) (on_total (λ (b : Bucket). key_parts (bucket_key b)) (any_parts_total sources)) _ _ up c.sort_by.ensures.stable (λ a r f k. search rules)
    ∙ sorted_same (λ b. is_composite_of (length sources) (bucket_key b)) (λ a b. any_parts_cmp sources (key_parts (bucket_key a)) (key_parts (bucket_key b))) (λ a b. composite_cmp sources (bucket_key a) (bucket_key b))
    (λ a b e f. same_composites sources (bucket_key a) (bucket_key b) e f) c.args.buckets.now.items c.requires)
    c.sort_by.ensures.sorted
