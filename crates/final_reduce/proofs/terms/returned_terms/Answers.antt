use Rattle.std.proofs.Common.{◌≡◌, ◌∙◌, ap, arith}
use Rattle.std.specs.Prelude.{sum_by, take, nat_le}
use Rattle.std.proofs.lemmas.List.Sums.{sum_by-take-drop}
use Rattle.std.proofs.lemmas.List.Sorted.{sum_by-IsPermutation}
use Rattle.agg_evaluation.specs.Orders.{bucket_cmp, bucket_count}
use Rattle.list_laws.specs.Sorting.{sorted}
use Rattle.agg_spec.specs.Filling.{frequent}
use Rattle.bucket_order.specs.Kinds.{child_kinds}
use Rattle.list_laws.proofs.Sums.{sum_by-filter}
use Rattle.final_reduce.specs.Standing.{ordered_terms}
use Rattle.final_reduce.proofs.terms.returned_terms.Goals as goal

pub total_count-total-requires : goal.total_count-total-requires
total_count-total-requires c =
    omega (
      arith,
      ap (sum_by bucket_count) c.as_slice.ensures.value,
      sum_by-IsPermutation bucket_count c.keep_frequent.new.buckets.items c.sort_buckets.new.buckets.items c.sort_buckets.ensures.same,
      ap (sum_by bucket_count) c.keep_frequent.ensures,
      ap (λ bs. sum_by bucket_count (frequent c.args.min_doc_count bs)) c.into_vec-terms.ensures,
      sum_by-filter bucket_count (λ b. nat_le c.args.min_doc_count (bucket_count b)) c.args.buckets,
    )

pub returns-clause-beyond : goal.returns-clause-beyond
returns-clause-beyond c =
    let cmp = bucket_cmp (child_kinds c.args.children.now) c.args.order.now in
    let terms = ordered_terms (child_kinds c.args.children.now) c.args.min_doc_count c.args.order.now c.args.buckets in
    let is : c.sort_buckets.new.buckets.items ≡ terms = c.in_ok-sort_buckets.ensures.sorted ∙ ap (λ bs. sorted cmp bs) (c.keep_frequent.ensures ∙ ap (frequent c.args.min_doc_count) c.into_vec-terms.ensures) in
    omega (arith, c.total_count-total.ensures ∙ ap (sum_by bucket_count) (c.as_slice.ensures.value ∙ is), c.total_count.ensures ∙ ap (sum_by bucket_count) (c.as_slice-2.ensures.value ∙ c.truncate.ensures.items ∙ ap (take c.args.size) is), sum_by-take-drop bucket_count terms c.args.size)

pub returns-clause-within : goal.returns-clause-within
returns-clause-within c =
    omega (
      arith,
      c.total_count-total.ensures,
      ap (sum_by bucket_count) c.as_slice.ensures.value,
      sum_by-IsPermutation bucket_count c.keep_frequent.new.buckets.items c.sort_buckets.new.buckets.items c.sort_buckets.ensures.same,
      ap (sum_by bucket_count) c.keep_frequent.ensures,
      ap (λ bs. sum_by bucket_count (frequent c.args.min_doc_count bs)) c.into_vec-terms.ensures,
      sum_by-filter bucket_count (λ b. nat_le c.args.min_doc_count (bucket_count b)) c.args.buckets,
    )
