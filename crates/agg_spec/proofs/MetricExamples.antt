-- Answers of sum, min, max, avg and value count, computed.
use Rattle.std.specs.Prelude.{◌≡◌, refl, pos, negsuc, true, false, [], ◌∷◌, Some, None, codes}
use Rattle.agg_model.specs.declared.row.Scalar.TheVariants as scalar
use Rattle.agg_model.specs.declared.query.Query.TheVariants as query
use Rattle.agg_model.specs.declared.aggregation.Kind.TheVariants as kind
use Rattle.agg_spec.specs.Index.{Index}
use Rattle.agg_spec.proofs.Samples.{numbers, words, row, one_shard, by_count, leaf, search_of, aggregations_text}
use Rattle.agg_spec.proofs.Computing.{computing}

abbrev repeated_values : Index
repeated_values = one_shard (row (numbers (pos 5 ∷ pos 5 ∷ []) ∷ words (codes "a" ∷ codes "b" ∷ []) ∷ []) ∷ [])

numbers_repeat_and_words_do_not :
    aggregations_text repeated_values (search_of query.All (leaf (codes "s") (kind.Sum 1 None) ∷ leaf (codes "u") (kind.Terms 2 10 25 1 by_count None [] None false) ∷ leaf (codes "v") (kind.ValueCount 2 None) ∷ leaf (codes "w") (kind.ValueCount 1 None) ∷ []))
    ≡ codes "{\"s\":{\"value\":10},\"u\":{\"buckets\":[{\"doc_count\":1,\"key\":\"a\"},{\"doc_count\":1,\"key\":\"b\"}],\"doc_count_error_upper_bound\":0,\"sum_other_doc_count\":0},\"v\":{\"value\":2},\"w\":{\"value\":2}}"
unfolding computing
numbers_repeat_and_words_do_not = refl

abbrev below_zero : Index
below_zero = one_shard (row (numbers (negsuc 0 ∷ []) ∷ []) ∷ row (numbers (pos 0 ∷ []) ∷ []) ∷ row (numbers (pos 0 ∷ []) ∷ []) ∷ [])

average_below_zero :
    aggregations_text below_zero (search_of query.All (leaf (codes "a") (kind.Avg 1 None) ∷ leaf (codes "g") (kind.Max 1 None) ∷ leaf (codes "l") (kind.Min 1 None) ∷ leaf (codes "s") (kind.Sum 1 None) ∷ []))
    ≡ codes "{\"a\":{\"count\":3,\"sum\":-1,\"value_as_string\":\"-0.333333\"},\"g\":{\"value\":0},\"l\":{\"value\":-1},\"s\":{\"value\":-1}}"
unfolding computing
average_below_zero = refl

abbrev no_values : Index
no_values = one_shard (row (words (codes "a" ∷ []) ∷ []) ∷ [])

metrics_of_nothing :
    aggregations_text no_values (search_of query.All (leaf (codes "a") (kind.Avg 1 None) ∷ leaf (codes "c") (kind.ValueCount 1 None) ∷ leaf (codes "g") (kind.Max 1 None) ∷ leaf (codes "l") (kind.Min 1 None) ∷ leaf (codes "s") (kind.Sum 1 None) ∷ []))
    ≡ codes "{\"a\":{\"count\":0,\"sum\":0,\"value_as_string\":null},\"c\":{\"value\":0},\"g\":{\"value\":null},\"l\":{\"value\":null},\"s\":{\"value\":0}}"
unfolding computing
metrics_of_nothing = refl

metrics_of_a_missing_value :
    aggregations_text no_values (search_of query.All (leaf (codes "a") (kind.Avg 1 (Some (scalar.Whole (pos 7)))) ∷ leaf (codes "c") (kind.ValueCount 0 (Some (scalar.Flag true))) ∷ leaf (codes "g") (kind.Max 1 (Some (scalar.Whole (negsuc 2)))) ∷ leaf (codes "l") (kind.Min 1 (Some (scalar.Whole (pos 4)))) ∷ leaf (codes "s") (kind.Sum 1 (Some (scalar.Whole (pos 10)))) ∷ []))
    ≡ codes "{\"a\":{\"count\":1,\"sum\":7,\"value_as_string\":\"7.000000\"},\"c\":{\"value\":1},\"g\":{\"value\":-3},\"l\":{\"value\":4},\"s\":{\"value\":10}}"
unfolding computing
metrics_of_a_missing_value = refl

abbrev greatest_number : Index
greatest_number = one_shard (row (numbers (pos 9223372036854775807 ∷ []) ∷ []) ∷ row (numbers (pos 0 ∷ []) ∷ []) ∷ [])

sum_within_64_bits :
    aggregations_text greatest_number (search_of query.All (leaf (codes "s") (kind.Sum 1 None) ∷ []))
    ≡ codes "{\"s\":{\"value\":9223372036854775807}}"
unfolding computing
sum_within_64_bits = refl
