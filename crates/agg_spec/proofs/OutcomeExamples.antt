-- Outcomes of searches by the whole reduction, computed: responses as whole lines, and refusals.
use Rattle.std.specs.Prelude.{◌≡◌, refl, ℕ, pos, negsuc, false, [], ◌∷◌, Some, None, codes}
use Rattle.agg_model.specs.declared.row.Scalar.TheVariants as scalar
use Rattle.agg_model.specs.declared.query.Query.TheVariants as query
use Rattle.agg_model.specs.declared.query.Probe.TheVariants as probe
use Rattle.agg_model.specs.declared.aggregation.Kind.TheVariants as kind
use Rattle.agg_evaluation.specs.Keys.{no_bounds}
use Rattle.agg_spec.specs.Index.{Index}
use Rattle.agg_spec.proofs.Samples.{numbers, words, row, parent_row, nested_at, index, one_shard, items_index, by_count, by_key, agg, leaf, search_of}
use Rattle.agg_model.specs.declared.outcome.Outcome.{Outcome}
use Rattle.agg_model.specs.declared.outcome.Outcome.TheVariants as ended
use Rattle.agg_model.specs.declared.outcome.Refused.TheVariants as refused
use Rattle.std.specs.Prelude.{length, Err}
use Rattle.agg_spec.specs.Outcome.{search_outcome, outcome}
use Rattle.agg_spec.proofs.Computing.{computing}

abbrev no_documents : Index
no_documents = one_shard []

response_of_no_documents :
    search_outcome no_documents 65536 (search_of query.All (leaf (codes "t") (kind.Terms 2 10 25 1 by_count None [] None false) ∷ [])) []
    ≡ ended.Response (codes "{\"_shards\":{\"failed\":0,\"skipped\":0,\"successful\":1,\"total\":1},\"aggregations\":{\"t\":{\"buckets\":[],\"doc_count_error_upper_bound\":0,\"sum_other_doc_count\":0}},\"hits\":{\"hits\":[],\"max_score\":null,\"total\":{\"relation\":\"eq\",\"value\":0}},\"status\":200,\"timed_out\":false,\"took\":0}")
unfolding computing
response_of_no_documents = refl

response_length : Outcome → ℕ
response_length (ended.Response line) = length line
response_length _ = 0

response_of_265_bytes : response_length (search_outcome no_documents 65536 (search_of query.All (leaf (codes "t") (kind.Terms 2 10 25 1 by_count None [] None false) ∷ [])) []) ≡ 265
unfolding computing response_length
response_of_265_bytes = refl

no_aggregations :
    search_outcome no_documents 65536 (search_of query.All ([])) []
    ≡ ended.Response (codes "{\"_shards\":{\"failed\":0,\"skipped\":0,\"successful\":1,\"total\":1},\"hits\":{\"hits\":[],\"max_score\":null,\"total\":{\"relation\":\"eq\",\"value\":0}},\"status\":200,\"timed_out\":false,\"took\":0}")
unfolding computing
no_aggregations = refl

abbrev two_words : Index
two_words = one_shard (row (words (codes "a" ∷ []) ∷ []) ∷ row (words (codes "b" ∷ []) ∷ []) ∷ [])

two_terms :
    search_outcome two_words 65536 (search_of query.All (leaf (codes "t") (kind.Terms 2 10 25 1 by_count None [] None false) ∷ [])) []
    ≡ ended.Response (codes "{\"_shards\":{\"failed\":0,\"skipped\":0,\"successful\":1,\"total\":1},\"aggregations\":{\"t\":{\"buckets\":[{\"doc_count\":1,\"key\":\"a\"},{\"doc_count\":1,\"key\":\"b\"}],\"doc_count_error_upper_bound\":0,\"sum_other_doc_count\":0}},\"hits\":{\"hits\":[],\"max_score\":null,\"total\":{\"relation\":\"eq\",\"value\":2}},\"status\":200,\"timed_out\":false,\"took\":0}")
unfolding computing
two_terms = refl

abbrev seven_shards : Index
seven_shards = index ((row (words (codes "a" ∷ []) ∷ []) ∷ row (words (codes "a" ∷ []) ∷ []) ∷ row (words (codes "a" ∷ []) ∷ []) ∷ row (words (codes "b" ∷ []) ∷ []) ∷ []) ∷ (row (words (codes "a" ∷ []) ∷ []) ∷ row (words (codes "b" ∷ []) ∷ []) ∷ []) ∷ (row (words (codes "a" ∷ []) ∷ []) ∷ row (words (codes "b" ∷ []) ∷ []) ∷ row (words (codes "b" ∷ []) ∷ []) ∷ []) ∷ (row (words (codes "a" ∷ []) ∷ []) ∷ row (words (codes "a" ∷ []) ∷ []) ∷ row (words (codes "a" ∷ []) ∷ []) ∷ []) ∷ (row (words (codes "a" ∷ []) ∷ []) ∷ row (words (codes "b" ∷ []) ∷ []) ∷ row (words (codes "b" ∷ []) ∷ []) ∷ row (words (codes "b" ∷ []) ∷ []) ∷ []) ∷ (row (words (codes "a" ∷ []) ∷ []) ∷ row (words (codes "b" ∷ []) ∷ []) ∷ []) ∷ (row (words (codes "a" ∷ []) ∷ []) ∷ row (words (codes "a" ∷ []) ∷ []) ∷ []) ∷ [])

seven_shards_and_twenty_documents :
    search_outcome seven_shards 65536 (search_of query.All (leaf (codes "t") (kind.Terms 2 10 25 1 by_count None [] None false) ∷ [])) []
    ≡ ended.Response (codes "{\"_shards\":{\"failed\":0,\"skipped\":0,\"successful\":7,\"total\":7},\"aggregations\":{\"t\":{\"buckets\":[{\"doc_count\":12,\"key\":\"a\"},{\"doc_count\":8,\"key\":\"b\"}],\"doc_count_error_upper_bound\":0,\"sum_other_doc_count\":0}},\"hits\":{\"hits\":[],\"max_score\":null,\"total\":{\"relation\":\"eq\",\"value\":20}},\"status\":200,\"timed_out\":false,\"took\":0}")
unfolding computing
seven_shards_and_twenty_documents = refl

abbrev two_orders : Index
two_orders = items_index (parent_row [] (nested_at 0 (row (record { field = 0; values = scalar.Word (codes "k") ∷ [] } ∷ []) ∷ []) ∷ []) ∷ parent_row [] (nested_at 0 (row (record { field = 0; values = scalar.Word (codes "m") ∷ [] } ∷ []) ∷ []) ∷ []) ∷ [])

nested_query_without_aggregations :
    search_outcome two_orders 65536 (search_of (query.Nested 0 (query.Term 0 (probe.Word (codes "m")))) ([])) []
    ≡ ended.Response (codes "{\"_shards\":{\"failed\":0,\"skipped\":0,\"successful\":1,\"total\":1},\"hits\":{\"hits\":[],\"max_score\":null,\"total\":{\"relation\":\"eq\",\"value\":1}},\"status\":200,\"timed_out\":false,\"took\":0}")
unfolding computing
nested_query_without_aggregations = refl

abbrev three_numbers : Index
three_numbers = one_shard (row (numbers (negsuc 0 ∷ []) ∷ []) ∷ row (numbers (pos 0 ∷ []) ∷ []) ∷ row (numbers (pos 25 ∷ []) ∷ []) ∷ [])

as_many_buckets_as_allowed :
    search_outcome three_numbers 4 (search_of query.All (leaf (codes "h") (kind.Histogram 1 10 0 0 no_bounds no_bounds false by_key None) ∷ [])) []
    ≡ ended.Response (codes "{\"_shards\":{\"failed\":0,\"skipped\":0,\"successful\":1,\"total\":1},\"aggregations\":{\"h\":{\"buckets\":[{\"doc_count\":1,\"key\":-10},{\"doc_count\":1,\"key\":0},{\"doc_count\":0,\"key\":10},{\"doc_count\":1,\"key\":20}]}},\"hits\":{\"hits\":[],\"max_score\":null,\"total\":{\"relation\":\"eq\",\"value\":3}},\"status\":200,\"timed_out\":false,\"took\":0}")
unfolding computing
as_many_buckets_as_allowed = refl

-- filled buckets count
one_bucket_too_many :
    search_outcome three_numbers 3 (search_of query.All (leaf (codes "h") (kind.Histogram 1 10 0 0 no_bounds no_bounds false by_key None) ∷ [])) []
    ≡ ended.Refused (refused.TooManyBuckets 4 3)
unfolding computing
one_bucket_too_many = refl

-- two filters and four intervals; the one bucket of `f` is no member of a list
buckets_below_buckets_count :
    search_outcome three_numbers 5 (search_of query.All (agg (codes "f") (kind.Filter query.All) (agg (codes "g") (kind.Filters None (query.All ∷ []) (Some (codes "_other_"))) (leaf (codes "h") (kind.Histogram 1 10 0 0 no_bounds no_bounds false by_key None) ∷ []) ∷ []) ∷ [])) []
    ≡ ended.Refused (refused.TooManyBuckets 6 5)
unfolding computing
buckets_below_buckets_count = refl

abbrev too_great_a_sum : Index
too_great_a_sum = one_shard (row (numbers (pos 9223372036854775807 ∷ []) ∷ words (codes "a" ∷ []) ∷ []) ∷ row (numbers (pos 9223372036854775807 ∷ []) ∷ words (codes "a" ∷ []) ∷ []) ∷ [])

sum_out_of_range :
    search_outcome too_great_a_sum 65536 (search_of query.All (leaf (codes "s") (kind.Sum 1 None) ∷ [])) []
    ≡ ended.Refused (refused.SumRange (codes "/s"))
unfolding computing
sum_out_of_range = refl

average_out_of_range_below_terms :
    search_outcome too_great_a_sum 65536 (search_of query.All (agg (codes "by") (kind.Terms 2 10 25 1 by_count None [] None false) (leaf (codes "s") (kind.Avg 1 None) ∷ []) ∷ [])) []
    ≡ ended.Refused (refused.SumRange (codes "/by/s"))
unfolding computing
average_out_of_range_below_terms = refl

greatest_value_in_range :
    search_outcome too_great_a_sum 65536 (search_of query.All (leaf (codes "g") (kind.Max 1 None) ∷ [])) []
    ≡ ended.Response (codes "{\"_shards\":{\"failed\":0,\"skipped\":0,\"successful\":1,\"total\":1},\"aggregations\":{\"g\":{\"value\":9223372036854775807}},\"hits\":{\"hits\":[],\"max_score\":null,\"total\":{\"relation\":\"eq\",\"value\":2}},\"status\":200,\"timed_out\":false,\"took\":0}")
unfolding computing
greatest_value_in_range = refl

abbrev least_number : Index
least_number = one_shard (row (numbers (negsuc 9223372036854775807 ∷ []) ∷ []) ∷ [])

key_out_of_range :
    search_outcome least_number 65536 (search_of query.All (leaf (codes "h") (kind.Histogram 1 9223372036854775807 0 0 no_bounds no_bounds false by_key None) ∷ [])) []
    ≡ ended.Refused (refused.SumRange (codes "/h"))
unfolding computing
key_out_of_range = refl

part_of_a_key_out_of_range :
    search_outcome least_number 65536 (search_of query.All (leaf (codes "c") (kind.Composite (record { name = codes "p"; field = 1; interval = Some 9223372036854775807; descending = false; missing_bucket = false } ∷ []) 10 None) ∷ [])) []
    ≡ ended.Refused (refused.SumRange (codes "/c"))
unfolding computing
part_of_a_key_out_of_range = refl

abbrev greatest_number : Index
greatest_number = one_shard (row (numbers (pos 9223372036854775807 ∷ []) ∷ []) ∷ [])

greatest_key :
    search_outcome greatest_number 65536 (search_of query.All (leaf (codes "h") (kind.Histogram 1 9223372036854775807 0 0 no_bounds no_bounds false by_key None) ∷ [])) []
    ≡ ended.Response (codes "{\"_shards\":{\"failed\":0,\"skipped\":0,\"successful\":1,\"total\":1},\"aggregations\":{\"h\":{\"buckets\":[{\"doc_count\":1,\"key\":9223372036854775807}]}},\"hits\":{\"hits\":[],\"max_score\":null,\"total\":{\"relation\":\"eq\",\"value\":1}},\"status\":200,\"timed_out\":false,\"took\":0}")
unfolding computing
greatest_key = refl

abbrev ten_numbers : Index
ten_numbers = one_shard (row (numbers (pos 0 ∷ pos 1 ∷ pos 2 ∷ pos 3 ∷ pos 4 ∷ pos 5 ∷ pos 6 ∷ pos 7 ∷ pos 8 ∷ pos 9 ∷ []) ∷ []) ∷ [])

-- one row has 100,000 combinations of keys
too_many_combinations :
    search_outcome ten_numbers 65536 (search_of query.All (leaf (codes "c") (kind.Composite (record { name = codes "a"; field = 1; interval = None; descending = false; missing_bucket = false } ∷ record { name = codes "b"; field = 1; interval = None; descending = false; missing_bucket = false } ∷ record { name = codes "c"; field = 1; interval = None; descending = false; missing_bucket = false } ∷ record { name = codes "d"; field = 1; interval = None; descending = false; missing_bucket = false } ∷ record { name = codes "e"; field = 1; interval = None; descending = false; missing_bucket = false } ∷ []) 10 None) ∷ [])) []
    ≡ ended.Refused refused.TooWide
unfolding computing
too_many_combinations = refl

refused_body : outcome no_documents 65536 (record { bytes = 1; search = Err refused.NotJson }) [] ≡ ended.Refused refused.NotJson
unfolding computing
refused_body = refl
