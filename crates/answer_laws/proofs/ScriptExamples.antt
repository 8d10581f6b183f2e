-- Output of scripts with nested objects and with numbers as texts, computed from bytes to bytes by one worker.
use Rattle.std.specs.Prelude.{refl, ℕ, List, length, Ok, codes}
use Rattle.std.proofs.Common.{inl}
use Rattle.agg_spec.proofs.Samples.{default_limits, settings}
use Rattle.answer_laws.proofs.Runs.{Writes, no_change}
use Rattle.answer_laws.proofs.AloneRuns.{well}
use Rattle.agg_reading.proofs.Computing.{computing as reading_computing}
use Rattle.agg_spec.proofs.Computing.{computing}

abbrev nested_objects_input : List ℕ
nested_objects_input = codes "{\"index\":\"i\",\"mappings\":{\"properties\":{\"items\":{\"type\":\"nested\",\"properties\":{\"s\":{\"type\":\"keyword\"}}}}}}\n\n{\"index\":{}}\n{\"items\":[{\"s\":\"k\"},{\"s\":\"k\"}]}\n\n{}\n{\"aggs\":{\"o\":{\"nested\":{\"path\":\"items\"},\"aggs\":{\"by\":{\"terms\":{\"field\":\"items.s\"},\"aggs\":{\"back\":{\"reverse_nested\":{}}}}}}}}\n"

nested_objects : Writes no_change (Ok (settings default_limits)) nested_objects_input (length nested_objects_input) 0 (codes "{\"errors\":false,\"items\":[{\"index\":{\"_id\":\"_auto_0\",\"_index\":\"i\",\"result\":\"created\",\"status\":201}}],\"took\":0}\n{\"_shards\":{\"failed\":0,\"skipped\":0,\"successful\":1,\"total\":1},\"aggregations\":{\"o\":{\"by\":{\"buckets\":[{\"back\":{\"doc_count\":1},\"doc_count\":2,\"key\":\"k\"}],\"doc_count_error_upper_bound\":0,\"sum_other_doc_count\":0},\"doc_count\":2}},\"hits\":{\"hits\":[],\"max_score\":null,\"total\":{\"relation\":\"eq\",\"value\":1}},\"status\":200,\"timed_out\":false,\"took\":0}\n{\"breakers\":{\"fielddata\":{\"estimated_size_in_bytes\":18,\"granted_size_in_bytes\":18,\"limit_size_in_bytes\":429496729,\"overhead_percent\":103,\"tripped\":0},\"inflight_requests\":{\"estimated_size_in_bytes\":0,\"granted_size_in_bytes\":248,\"limit_size_in_bytes\":1073741824,\"overhead_percent\":200,\"tripped\":0},\"parent\":{\"estimated_size_in_bytes\":18,\"granted_size_in_bytes\":6617,\"limit_size_in_bytes\":751619276,\"overhead_percent\":100,\"tripped\":0},\"request\":{\"estimated_size_in_bytes\":0,\"granted_size_in_bytes\":6351,\"limit_size_in_bytes\":644245094,\"overhead_percent\":100,\"tripped\":0}}}\n")
unfolding computing reading_computing
nested_objects = well no_change (settings default_limits) nested_objects_input (length nested_objects_input) (codes "{\"errors\":false,\"items\":[{\"index\":{\"_id\":\"_auto_0\",\"_index\":\"i\",\"result\":\"created\",\"status\":201}}],\"took\":0}\n{\"_shards\":{\"failed\":0,\"skipped\":0,\"successful\":1,\"total\":1},\"aggregations\":{\"o\":{\"by\":{\"buckets\":[{\"back\":{\"doc_count\":1},\"doc_count\":2,\"key\":\"k\"}],\"doc_count_error_upper_bound\":0,\"sum_other_doc_count\":0},\"doc_count\":2}},\"hits\":{\"hits\":[],\"max_score\":null,\"total\":{\"relation\":\"eq\",\"value\":1}},\"status\":200,\"timed_out\":false,\"took\":0}\n{\"breakers\":{\"fielddata\":{\"estimated_size_in_bytes\":18,\"granted_size_in_bytes\":18,\"limit_size_in_bytes\":429496729,\"overhead_percent\":103,\"tripped\":0},\"inflight_requests\":{\"estimated_size_in_bytes\":0,\"granted_size_in_bytes\":248,\"limit_size_in_bytes\":1073741824,\"overhead_percent\":200,\"tripped\":0},\"parent\":{\"estimated_size_in_bytes\":18,\"granted_size_in_bytes\":6617,\"limit_size_in_bytes\":751619276,\"overhead_percent\":100,\"tripped\":0},\"request\":{\"estimated_size_in_bytes\":0,\"granted_size_in_bytes\":6351,\"limit_size_in_bytes\":644245094,\"overhead_percent\":100,\"tripped\":0}}}\n") refl refl (record { form = refl; each = ((refl, inl refl), tt) }, tt) refl refl refl

abbrev numbers_as_texts_input : List ℕ
numbers_as_texts_input = codes "{\"index\":\"i\",\"mappings\":{\"properties\":{\"b\":{\"type\":\"boolean\"},\"n\":{\"type\":\"long\"},\"t\":{\"type\":\"keyword\"}}},\"settings\":{\"number_of_shards\":1}}\n\n{\"index\":{}}\n{\"n\":1.5}\n{\"index\":{}}\n{\"n\":\"12\"}\n{\"index\":{}}\n{\"n\":9223372036854775808}\n\n{}\n{\"aggs\":{\"t\":{\"terms\":{\"field\":\"n\"}}}}\n"

numbers_as_texts : Writes no_change (Ok (settings default_limits)) numbers_as_texts_input (length numbers_as_texts_input) 0 (codes "{\"errors\":true,\"items\":[{\"index\":{\"_id\":\"_auto_0\",\"_index\":\"i\",\"error\":{\"number\":21,\"path\":\"n\",\"type\":\"mapper_parsing_exception\"},\"status\":400}},{\"index\":{\"_id\":\"_auto_1\",\"_index\":\"i\",\"result\":\"created\",\"status\":201}},{\"index\":{\"_id\":\"_auto_2\",\"_index\":\"i\",\"error\":{\"number\":22,\"path\":\"n\",\"type\":\"mapper_parsing_exception\"},\"status\":400}}],\"took\":0}\n{\"_shards\":{\"failed\":0,\"skipped\":0,\"successful\":1,\"total\":1},\"aggregations\":{\"t\":{\"buckets\":[{\"doc_count\":1,\"key\":12}],\"doc_count_error_upper_bound\":0,\"sum_other_doc_count\":0}},\"hits\":{\"hits\":[],\"max_score\":null,\"total\":{\"relation\":\"eq\",\"value\":1}},\"status\":200,\"timed_out\":false,\"took\":0}\n{\"breakers\":{\"fielddata\":{\"estimated_size_in_bytes\":9,\"granted_size_in_bytes\":9,\"limit_size_in_bytes\":429496729,\"overhead_percent\":103,\"tripped\":0},\"inflight_requests\":{\"estimated_size_in_bytes\":0,\"granted_size_in_bytes\":76,\"limit_size_in_bytes\":1073741824,\"overhead_percent\":200,\"tripped\":0},\"parent\":{\"estimated_size_in_bytes\":9,\"granted_size_in_bytes\":5118,\"limit_size_in_bytes\":751619276,\"overhead_percent\":100,\"tripped\":0},\"request\":{\"estimated_size_in_bytes\":0,\"granted_size_in_bytes\":5033,\"limit_size_in_bytes\":644245094,\"overhead_percent\":100,\"tripped\":0}}}\n")
unfolding computing reading_computing
numbers_as_texts = well no_change (settings default_limits) numbers_as_texts_input (length numbers_as_texts_input) (codes "{\"errors\":true,\"items\":[{\"index\":{\"_id\":\"_auto_0\",\"_index\":\"i\",\"error\":{\"number\":21,\"path\":\"n\",\"type\":\"mapper_parsing_exception\"},\"status\":400}},{\"index\":{\"_id\":\"_auto_1\",\"_index\":\"i\",\"result\":\"created\",\"status\":201}},{\"index\":{\"_id\":\"_auto_2\",\"_index\":\"i\",\"error\":{\"number\":22,\"path\":\"n\",\"type\":\"mapper_parsing_exception\"},\"status\":400}}],\"took\":0}\n{\"_shards\":{\"failed\":0,\"skipped\":0,\"successful\":1,\"total\":1},\"aggregations\":{\"t\":{\"buckets\":[{\"doc_count\":1,\"key\":12}],\"doc_count_error_upper_bound\":0,\"sum_other_doc_count\":0}},\"hits\":{\"hits\":[],\"max_score\":null,\"total\":{\"relation\":\"eq\",\"value\":1}},\"status\":200,\"timed_out\":false,\"took\":0}\n{\"breakers\":{\"fielddata\":{\"estimated_size_in_bytes\":9,\"granted_size_in_bytes\":9,\"limit_size_in_bytes\":429496729,\"overhead_percent\":103,\"tripped\":0},\"inflight_requests\":{\"estimated_size_in_bytes\":0,\"granted_size_in_bytes\":76,\"limit_size_in_bytes\":1073741824,\"overhead_percent\":200,\"tripped\":0},\"parent\":{\"estimated_size_in_bytes\":9,\"granted_size_in_bytes\":5118,\"limit_size_in_bytes\":751619276,\"overhead_percent\":100,\"tripped\":0},\"request\":{\"estimated_size_in_bytes\":0,\"granted_size_in_bytes\":5033,\"limit_size_in_bytes\":644245094,\"overhead_percent\":100,\"tripped\":0}}}\n") refl refl (record { form = refl; each = ((refl, inl refl), tt) }, tt) refl refl refl
