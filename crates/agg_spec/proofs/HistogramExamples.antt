-- Answers of histograms, computed: keys of negative numbers, gaps, bounds, minimum counts.
use Rattle.std.specs.Prelude.{◌≡◌, refl, pos, negsuc, true, false, [], ◌∷◌, Some, None, codes}
use Rattle.agg_model.specs.declared.row.Scalar.TheVariants as scalar
use Rattle.agg_model.specs.declared.query.Query.TheVariants as query
use Rattle.agg_model.specs.declared.aggregation.Kind.TheVariants as kind
use Rattle.agg_evaluation.specs.Keys.{no_bounds}
use Rattle.agg_spec.specs.Index.{Index}
use Rattle.agg_spec.proofs.Samples.{numbers, words, row, one_shard, by_count, by_key, agg, leaf, search_of, aggregations_text}
use Rattle.agg_spec.proofs.Computing.{computing}

abbrev three_numbers : Index
three_numbers = one_shard (row (numbers (negsuc 0 ∷ []) ∷ []) ∷ row (numbers (pos 0 ∷ []) ∷ []) ∷ row (numbers (pos 25 ∷ []) ∷ []) ∷ [])

gap_filled :
    aggregations_text three_numbers (search_of query.All (leaf (codes "h") (kind.Histogram 1 10 0 0 no_bounds no_bounds false by_key None) ∷ []))
    ≡ codes "{\"h\":{\"buckets\":[{\"doc_count\":1,\"key\":-10},{\"doc_count\":1,\"key\":0},{\"doc_count\":0,\"key\":10},{\"doc_count\":1,\"key\":20}]}}"
unfolding computing
gap_filled = refl

with_an_offset :
    aggregations_text three_numbers (search_of query.All (leaf (codes "h") (kind.Histogram 1 10 3 0 no_bounds no_bounds false by_key None) ∷ []))
    ≡ codes "{\"h\":{\"buckets\":[{\"doc_count\":2,\"key\":-7},{\"doc_count\":0,\"key\":3},{\"doc_count\":0,\"key\":13},{\"doc_count\":1,\"key\":23}]}}"
unfolding computing
with_an_offset = refl

minimum_count_leaves_gaps :
    aggregations_text three_numbers (search_of query.All (leaf (codes "h") (kind.Histogram 1 10 0 1 no_bounds no_bounds false by_key None) ∷ []))
    ≡ codes "{\"h\":{\"buckets\":[{\"doc_count\":1,\"key\":-10},{\"doc_count\":1,\"key\":0},{\"doc_count\":1,\"key\":20}]}}"
unfolding computing
minimum_count_leaves_gaps = refl

minimum_count_of_two :
    aggregations_text three_numbers (search_of query.All (leaf (codes "h") (kind.Histogram 1 50 10 2 no_bounds no_bounds false by_key None) ∷ []))
    ≡ codes "{\"h\":{\"buckets\":[{\"doc_count\":2,\"key\":-40}]}}"
unfolding computing
minimum_count_of_two = refl

keyed :
    aggregations_text three_numbers (search_of query.All (leaf (codes "h") (kind.Histogram 1 10 0 0 no_bounds no_bounds true by_key None) ∷ []))
    ≡ codes "{\"h\":{\"buckets\":{\"-10\":{\"doc_count\":1,\"key\":-10},\"0\":{\"doc_count\":1,\"key\":0},\"10\":{\"doc_count\":0,\"key\":10},\"20\":{\"doc_count\":1,\"key\":20}}}}"
unfolding computing
keyed = refl

by_count_descending :
    aggregations_text three_numbers (search_of query.All (leaf (codes "h") (kind.Histogram 1 10 0 0 no_bounds no_bounds false by_count None) ∷ []))
    ≡ codes "{\"h\":{\"buckets\":[{\"doc_count\":1,\"key\":-10},{\"doc_count\":1,\"key\":0},{\"doc_count\":1,\"key\":20},{\"doc_count\":0,\"key\":10}]}}"
unfolding computing
by_count_descending = refl

children_of_a_filled_bucket :
    aggregations_text three_numbers (search_of query.All (agg (codes "h") (kind.Histogram 1 10 0 0 no_bounds no_bounds false by_key None) (leaf (codes "a") (kind.Avg 1 None) ∷ leaf (codes "c") (kind.ValueCount 1 None) ∷ leaf (codes "m") (kind.Min 1 None) ∷ leaf (codes "s") (kind.Sum 1 None) ∷ leaf (codes "t") (kind.Terms 1 10 25 1 by_count None [] None false) ∷ []) ∷ []))
    ≡ codes "{\"h\":{\"buckets\":[{\"a\":{\"count\":1,\"sum\":-1,\"value_as_string\":\"-1.000000\"},\"c\":{\"value\":1},\"doc_count\":1,\"key\":-10,\"m\":{\"value\":-1},\"s\":{\"value\":-1},\"t\":{\"buckets\":[{\"doc_count\":1,\"key\":-1}],\"doc_count_error_upper_bound\":0,\"sum_other_doc_count\":0}},{\"a\":{\"count\":1,\"sum\":0,\"value_as_string\":\"0.000000\"},\"c\":{\"value\":1},\"doc_count\":1,\"key\":0,\"m\":{\"value\":0},\"s\":{\"value\":0},\"t\":{\"buckets\":[{\"doc_count\":1,\"key\":0}],\"doc_count_error_upper_bound\":0,\"sum_other_doc_count\":0}},{\"a\":{\"count\":0,\"sum\":0,\"value_as_string\":null},\"c\":{\"value\":0},\"doc_count\":0,\"key\":10,\"m\":{\"value\":null},\"s\":{\"value\":0},\"t\":{\"buckets\":[],\"doc_count_error_upper_bound\":0,\"sum_other_doc_count\":0}},{\"a\":{\"count\":1,\"sum\":25,\"value_as_string\":\"25.000000\"},\"c\":{\"value\":1},\"doc_count\":1,\"key\":20,\"m\":{\"value\":25},\"s\":{\"value\":25},\"t\":{\"buckets\":[{\"doc_count\":1,\"key\":25}],\"doc_count_error_upper_bound\":0,\"sum_other_doc_count\":0}}]}}"
unfolding computing
children_of_a_filled_bucket = refl

widened_on_both_sides :
    aggregations_text three_numbers (search_of query.All (leaf (codes "h") (kind.Histogram 1 10 0 0 (record { min = Some (negsuc 24); max = Some (pos 35) }) no_bounds false by_key None) ∷ []))
    ≡ codes "{\"h\":{\"buckets\":[{\"doc_count\":0,\"key\":-30},{\"doc_count\":0,\"key\":-20},{\"doc_count\":1,\"key\":-10},{\"doc_count\":1,\"key\":0},{\"doc_count\":0,\"key\":10},{\"doc_count\":1,\"key\":20},{\"doc_count\":0,\"key\":30}]}}"
unfolding computing
widened_on_both_sides = refl

lower_bound_alone :
    aggregations_text three_numbers (search_of query.All (leaf (codes "h") (kind.Histogram 1 10 0 0 (record { min = Some (negsuc 24); max = None }) no_bounds false by_key None) ∷ []))
    ≡ codes "{\"h\":{\"buckets\":[{\"doc_count\":0,\"key\":-30},{\"doc_count\":0,\"key\":-20},{\"doc_count\":1,\"key\":-10},{\"doc_count\":1,\"key\":0},{\"doc_count\":0,\"key\":10},{\"doc_count\":1,\"key\":20}]}}"
unfolding computing
lower_bound_alone = refl

-- the lower bound widens downward alone
lower_bound_above_all_keys :
    aggregations_text three_numbers (search_of query.All (leaf (codes "h") (kind.Histogram 1 10 0 0 (record { min = Some (pos 47); max = None }) no_bounds false by_key None) ∷ []))
    ≡ codes "{\"h\":{\"buckets\":[{\"doc_count\":1,\"key\":-10},{\"doc_count\":1,\"key\":0},{\"doc_count\":0,\"key\":10},{\"doc_count\":1,\"key\":20}]}}"
unfolding computing
lower_bound_above_all_keys = refl

-- the key 0 is below 5, though its bucket reaches above
hard_bounds_compare_keys :
    aggregations_text three_numbers (search_of query.All (leaf (codes "h") (kind.Histogram 1 10 0 0 no_bounds (record { min = Some (pos 5); max = None }) false by_key None) ∷ []))
    ≡ codes "{\"h\":{\"buckets\":[{\"doc_count\":1,\"key\":20}]}}"
unfolding computing
hard_bounds_compare_keys = refl

hard_bounds_cut_extended_bounds :
    aggregations_text three_numbers (search_of query.All (leaf (codes "h") (kind.Histogram 1 10 0 0 (record { min = Some (negsuc 14); max = Some (pos 15) }) (record { min = Some (negsuc 14); max = Some (pos 15) }) false by_key None) ∷ []))
    ≡ codes "{\"h\":{\"buckets\":[{\"doc_count\":1,\"key\":-10},{\"doc_count\":1,\"key\":0},{\"doc_count\":0,\"key\":10}]}}"
unfolding computing
hard_bounds_cut_extended_bounds = refl

abbrev no_numbers : Index
no_numbers = one_shard (row (words (codes "a" ∷ []) ∷ []) ∷ [])

no_bucket_and_no_bounds :
    aggregations_text no_numbers (search_of query.All (leaf (codes "h") (kind.Histogram 1 10 0 0 no_bounds no_bounds false by_key None) ∷ []))
    ≡ codes "{\"h\":{\"buckets\":[]}}"
unfolding computing
no_bucket_and_no_bounds = refl

no_bucket_and_one_bound :
    aggregations_text no_numbers (search_of query.All (leaf (codes "h") (kind.Histogram 1 10 0 0 (record { min = Some (pos 0); max = None }) no_bounds false by_key None) ∷ []))
    ≡ codes "{\"h\":{\"buckets\":[]}}"
unfolding computing
no_bucket_and_one_bound = refl

no_bucket_and_both_bounds :
    aggregations_text no_numbers (search_of query.All (leaf (codes "h") (kind.Histogram 1 10 0 0 (record { min = Some (pos 0); max = Some (pos 20) }) no_bounds false by_key None) ∷ []))
    ≡ codes "{\"h\":{\"buckets\":[{\"doc_count\":0,\"key\":0},{\"doc_count\":0,\"key\":10},{\"doc_count\":0,\"key\":20}]}}"
unfolding computing
no_bucket_and_both_bounds = refl

missing_as_a_number :
    aggregations_text no_numbers (search_of query.All (leaf (codes "h") (kind.Histogram 1 10 0 0 no_bounds no_bounds false by_key (Some (scalar.Whole (pos 7)))) ∷ []))
    ≡ codes "{\"h\":{\"buckets\":[{\"doc_count\":1,\"key\":0}]}}"
unfolding computing
missing_as_a_number = refl
