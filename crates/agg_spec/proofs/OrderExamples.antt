-- Terms in the order of a child's value, computed; a null value stands last in both directions.
use Rattle.std.specs.Prelude.{◌≡◌, refl, pos, negsuc, true, false, [], ◌∷◌, None, codes}
use Rattle.agg_model.specs.declared.query.Query.TheVariants as query
use Rattle.agg_model.specs.declared.aggregation.Kind.TheVariants as kind
use Rattle.agg_model.specs.declared.aggregation.OrderBy.TheVariants as by
use Rattle.agg_spec.specs.Index.{Index}
use Rattle.agg_spec.proofs.Samples.{numbers, words, row, one_shard, agg, leaf, search_of, aggregations_text}
use Rattle.agg_spec.proofs.Computing.{computing}

abbrev groups : Index
groups = one_shard (row (numbers (pos 5 ∷ []) ∷ words (codes "a" ∷ []) ∷ []) ∷ row (words (codes "b" ∷ []) ∷ []) ∷ row (numbers (pos 1 ∷ pos 9 ∷ []) ∷ words (codes "c" ∷ []) ∷ []) ∷ row (numbers (negsuc 2 ∷ []) ∷ words (codes "d" ∷ []) ∷ []) ∷ [])

by_sum_ascending :
    aggregations_text groups (search_of query.All (agg (codes "t") (kind.Terms 2 10 25 1 (record { by = by.Child 0; descending = false } ∷ []) None [] None false) (leaf (codes "x") (kind.Sum 1 None) ∷ []) ∷ []))
    ≡ codes "{\"t\":{\"buckets\":[{\"doc_count\":1,\"key\":\"d\",\"x\":{\"value\":-3}},{\"doc_count\":1,\"key\":\"b\",\"x\":{\"value\":0}},{\"doc_count\":1,\"key\":\"a\",\"x\":{\"value\":5}},{\"doc_count\":1,\"key\":\"c\",\"x\":{\"value\":10}}],\"doc_count_error_upper_bound\":0,\"sum_other_doc_count\":0}}"
unfolding computing
by_sum_ascending = refl

by_sum_descending :
    aggregations_text groups (search_of query.All (agg (codes "t") (kind.Terms 2 10 25 1 (record { by = by.Child 0; descending = true } ∷ []) None [] None false) (leaf (codes "x") (kind.Sum 1 None) ∷ []) ∷ []))
    ≡ codes "{\"t\":{\"buckets\":[{\"doc_count\":1,\"key\":\"c\",\"x\":{\"value\":10}},{\"doc_count\":1,\"key\":\"a\",\"x\":{\"value\":5}},{\"doc_count\":1,\"key\":\"b\",\"x\":{\"value\":0}},{\"doc_count\":1,\"key\":\"d\",\"x\":{\"value\":-3}}],\"doc_count_error_upper_bound\":0,\"sum_other_doc_count\":0}}"
unfolding computing
by_sum_descending = refl

by_min_ascending :
    aggregations_text groups (search_of query.All (agg (codes "t") (kind.Terms 2 10 25 1 (record { by = by.Child 0; descending = false } ∷ []) None [] None false) (leaf (codes "x") (kind.Min 1 None) ∷ []) ∷ []))
    ≡ codes "{\"t\":{\"buckets\":[{\"doc_count\":1,\"key\":\"d\",\"x\":{\"value\":-3}},{\"doc_count\":1,\"key\":\"c\",\"x\":{\"value\":1}},{\"doc_count\":1,\"key\":\"a\",\"x\":{\"value\":5}},{\"doc_count\":1,\"key\":\"b\",\"x\":{\"value\":null}}],\"doc_count_error_upper_bound\":0,\"sum_other_doc_count\":0}}"
unfolding computing
by_min_ascending = refl

by_min_descending :
    aggregations_text groups (search_of query.All (agg (codes "t") (kind.Terms 2 10 25 1 (record { by = by.Child 0; descending = true } ∷ []) None [] None false) (leaf (codes "x") (kind.Min 1 None) ∷ []) ∷ []))
    ≡ codes "{\"t\":{\"buckets\":[{\"doc_count\":1,\"key\":\"a\",\"x\":{\"value\":5}},{\"doc_count\":1,\"key\":\"c\",\"x\":{\"value\":1}},{\"doc_count\":1,\"key\":\"d\",\"x\":{\"value\":-3}},{\"doc_count\":1,\"key\":\"b\",\"x\":{\"value\":null}}],\"doc_count_error_upper_bound\":0,\"sum_other_doc_count\":0}}"
unfolding computing
by_min_descending = refl

by_max_ascending :
    aggregations_text groups (search_of query.All (agg (codes "t") (kind.Terms 2 10 25 1 (record { by = by.Child 0; descending = false } ∷ []) None [] None false) (leaf (codes "x") (kind.Max 1 None) ∷ []) ∷ []))
    ≡ codes "{\"t\":{\"buckets\":[{\"doc_count\":1,\"key\":\"d\",\"x\":{\"value\":-3}},{\"doc_count\":1,\"key\":\"a\",\"x\":{\"value\":5}},{\"doc_count\":1,\"key\":\"c\",\"x\":{\"value\":9}},{\"doc_count\":1,\"key\":\"b\",\"x\":{\"value\":null}}],\"doc_count_error_upper_bound\":0,\"sum_other_doc_count\":0}}"
unfolding computing
by_max_ascending = refl

by_max_descending :
    aggregations_text groups (search_of query.All (agg (codes "t") (kind.Terms 2 10 25 1 (record { by = by.Child 0; descending = true } ∷ []) None [] None false) (leaf (codes "x") (kind.Max 1 None) ∷ []) ∷ []))
    ≡ codes "{\"t\":{\"buckets\":[{\"doc_count\":1,\"key\":\"c\",\"x\":{\"value\":9}},{\"doc_count\":1,\"key\":\"a\",\"x\":{\"value\":5}},{\"doc_count\":1,\"key\":\"d\",\"x\":{\"value\":-3}},{\"doc_count\":1,\"key\":\"b\",\"x\":{\"value\":null}}],\"doc_count_error_upper_bound\":0,\"sum_other_doc_count\":0}}"
unfolding computing
by_max_descending = refl

by_value_count_ascending :
    aggregations_text groups (search_of query.All (agg (codes "t") (kind.Terms 2 10 25 1 (record { by = by.Child 0; descending = false } ∷ []) None [] None false) (leaf (codes "x") (kind.ValueCount 1 None) ∷ []) ∷ []))
    ≡ codes "{\"t\":{\"buckets\":[{\"doc_count\":1,\"key\":\"b\",\"x\":{\"value\":0}},{\"doc_count\":1,\"key\":\"a\",\"x\":{\"value\":1}},{\"doc_count\":1,\"key\":\"d\",\"x\":{\"value\":1}},{\"doc_count\":1,\"key\":\"c\",\"x\":{\"value\":2}}],\"doc_count_error_upper_bound\":0,\"sum_other_doc_count\":0}}"
unfolding computing
by_value_count_ascending = refl

by_value_count_descending :
    aggregations_text groups (search_of query.All (agg (codes "t") (kind.Terms 2 10 25 1 (record { by = by.Child 0; descending = true } ∷ []) None [] None false) (leaf (codes "x") (kind.ValueCount 1 None) ∷ []) ∷ []))
    ≡ codes "{\"t\":{\"buckets\":[{\"doc_count\":1,\"key\":\"c\",\"x\":{\"value\":2}},{\"doc_count\":1,\"key\":\"a\",\"x\":{\"value\":1}},{\"doc_count\":1,\"key\":\"d\",\"x\":{\"value\":1}},{\"doc_count\":1,\"key\":\"b\",\"x\":{\"value\":0}}],\"doc_count_error_upper_bound\":0,\"sum_other_doc_count\":0}}"
unfolding computing
by_value_count_descending = refl

error_by_a_child :
    aggregations_text groups (search_of query.All (agg (codes "t") (kind.Terms 2 4 4 1 (record { by = by.Child 0; descending = true } ∷ []) None [] None true) (leaf (codes "x") (kind.Max 1 None) ∷ []) ∷ []))
    ≡ codes "{\"t\":{\"buckets\":[{\"doc_count\":1,\"doc_count_error_upper_bound\":-1,\"key\":\"c\",\"x\":{\"value\":9}},{\"doc_count\":1,\"doc_count_error_upper_bound\":-1,\"key\":\"a\",\"x\":{\"value\":5}},{\"doc_count\":1,\"doc_count_error_upper_bound\":-1,\"key\":\"d\",\"x\":{\"value\":-3}},{\"doc_count\":1,\"doc_count_error_upper_bound\":-1,\"key\":\"b\",\"x\":{\"value\":null}}],\"doc_count_error_upper_bound\":-1,\"sum_other_doc_count\":0}}"
unfolding computing
error_by_a_child = refl
