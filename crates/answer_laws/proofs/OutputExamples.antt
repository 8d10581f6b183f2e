-- Output of one worker, computed: from the bytes of the input to the bytes that are written.
use Rattle.std.specs.Prelude.{refl, ℕ, List, [], length, Ok, codes}
use Rattle.std.proofs.Common.{inl, inr}
use Rattle.agg_spec.proofs.Samples.{default_limits, settings, request_limit}
use Rattle.answer_laws.proofs.Runs.{Writes, no_change}
use Rattle.answer_laws.proofs.AloneRuns.{well, refused_at}
use Rattle.agg_reading.proofs.Computing.{computing as reading_computing}
use Rattle.agg_spec.proofs.Computing.{computing}

abbrev no_documents_input : List ℕ
no_documents_input = codes "{\"index\":\"i\",\"mappings\":{\"properties\":{\"b\":{\"type\":\"boolean\"},\"n\":{\"type\":\"long\"},\"t\":{\"type\":\"keyword\"}}},\"settings\":{\"number_of_shards\":1}}\n\n\n{}\n{\"aggs\":{\"t\":{\"terms\":{\"field\":\"t\"}}}}\n"

no_documents : Writes no_change (Ok (settings default_limits)) no_documents_input (length no_documents_input) 0 (codes "{\"errors\":false,\"items\":[],\"took\":0}\n{\"_shards\":{\"failed\":0,\"skipped\":0,\"successful\":1,\"total\":1},\"aggregations\":{\"t\":{\"buckets\":[],\"doc_count_error_upper_bound\":0,\"sum_other_doc_count\":0}},\"hits\":{\"hits\":[],\"max_score\":null,\"total\":{\"relation\":\"eq\",\"value\":0}},\"status\":200,\"timed_out\":false,\"took\":0}\n{\"breakers\":{\"fielddata\":{\"estimated_size_in_bytes\":0,\"granted_size_in_bytes\":0,\"limit_size_in_bytes\":429496729,\"overhead_percent\":103,\"tripped\":0},\"inflight_requests\":{\"estimated_size_in_bytes\":0,\"granted_size_in_bytes\":76,\"limit_size_in_bytes\":1073741824,\"overhead_percent\":200,\"tripped\":0},\"parent\":{\"estimated_size_in_bytes\":0,\"granted_size_in_bytes\":4949,\"limit_size_in_bytes\":751619276,\"overhead_percent\":100,\"tripped\":0},\"request\":{\"estimated_size_in_bytes\":0,\"granted_size_in_bytes\":4873,\"limit_size_in_bytes\":644245094,\"overhead_percent\":100,\"tripped\":0}}}\n")
unfolding computing reading_computing
no_documents = well no_change (settings default_limits) no_documents_input (length no_documents_input) (codes "{\"errors\":false,\"items\":[],\"took\":0}\n{\"_shards\":{\"failed\":0,\"skipped\":0,\"successful\":1,\"total\":1},\"aggregations\":{\"t\":{\"buckets\":[],\"doc_count_error_upper_bound\":0,\"sum_other_doc_count\":0}},\"hits\":{\"hits\":[],\"max_score\":null,\"total\":{\"relation\":\"eq\",\"value\":0}},\"status\":200,\"timed_out\":false,\"took\":0}\n{\"breakers\":{\"fielddata\":{\"estimated_size_in_bytes\":0,\"granted_size_in_bytes\":0,\"limit_size_in_bytes\":429496729,\"overhead_percent\":103,\"tripped\":0},\"inflight_requests\":{\"estimated_size_in_bytes\":0,\"granted_size_in_bytes\":76,\"limit_size_in_bytes\":1073741824,\"overhead_percent\":200,\"tripped\":0},\"parent\":{\"estimated_size_in_bytes\":0,\"granted_size_in_bytes\":4949,\"limit_size_in_bytes\":751619276,\"overhead_percent\":100,\"tripped\":0},\"request\":{\"estimated_size_in_bytes\":0,\"granted_size_in_bytes\":4873,\"limit_size_in_bytes\":644245094,\"overhead_percent\":100,\"tripped\":0}}}\n") refl refl (record { form = refl; each = ((refl, inl refl), tt) }, tt) refl refl refl

abbrev refused_task_input : List ℕ
refused_task_input = codes "{\"index\":\"i\",\"mappings\":{\"properties\":{\"b\":{\"type\":\"boolean\"},\"n\":{\"type\":\"long\"},\"t\":{\"type\":\"keyword\"}}},\"settings\":{\"number_of_shards\":1}}\n\n{\"index\":{}}\n{\"t\":\"a\"}\n{\"index\":{}}\n{\"t\":\"b\"}\n\n{}\n{\"aggs\":{\"t\":{\"terms\":{\"field\":\"t\"}}}}\n"

refused_task : Writes no_change (Ok (request_limit 4865)) refused_task_input (length refused_task_input) 0 (codes "{\"errors\":false,\"items\":[{\"index\":{\"_id\":\"_auto_0\",\"_index\":\"i\",\"result\":\"created\",\"status\":201}},{\"index\":{\"_id\":\"_auto_1\",\"_index\":\"i\",\"result\":\"created\",\"status\":201}}],\"took\":0}\n{\"error\":{\"bytes_limit\":4865,\"bytes_wanted\":4866,\"durability\":\"TRANSIENT\",\"reason\":\"[request] Data too large, data for [search] would be [4866b], which is larger than the limit of [4865b]\",\"type\":\"circuit_breaking_exception\"},\"status\":429}\n{\"breakers\":{\"fielddata\":{\"estimated_size_in_bytes\":19,\"granted_size_in_bytes\":19,\"limit_size_in_bytes\":429496729,\"overhead_percent\":103,\"tripped\":0},\"inflight_requests\":{\"estimated_size_in_bytes\":0,\"granted_size_in_bytes\":76,\"limit_size_in_bytes\":1073741824,\"overhead_percent\":200,\"tripped\":0},\"parent\":{\"estimated_size_in_bytes\":19,\"granted_size_in_bytes\":4832,\"limit_size_in_bytes\":751619276,\"overhead_percent\":100,\"tripped\":0},\"request\":{\"estimated_size_in_bytes\":0,\"granted_size_in_bytes\":4737,\"limit_size_in_bytes\":4865,\"overhead_percent\":100,\"tripped\":1}}}\n")
unfolding computing reading_computing
refused_task = well no_change (request_limit 4865) refused_task_input (length refused_task_input) (codes "{\"errors\":false,\"items\":[{\"index\":{\"_id\":\"_auto_0\",\"_index\":\"i\",\"result\":\"created\",\"status\":201}},{\"index\":{\"_id\":\"_auto_1\",\"_index\":\"i\",\"result\":\"created\",\"status\":201}}],\"took\":0}\n{\"error\":{\"bytes_limit\":4865,\"bytes_wanted\":4866,\"durability\":\"TRANSIENT\",\"reason\":\"[request] Data too large, data for [search] would be [4866b], which is larger than the limit of [4865b]\",\"type\":\"circuit_breaking_exception\"},\"status\":429}\n{\"breakers\":{\"fielddata\":{\"estimated_size_in_bytes\":19,\"granted_size_in_bytes\":19,\"limit_size_in_bytes\":429496729,\"overhead_percent\":103,\"tripped\":0},\"inflight_requests\":{\"estimated_size_in_bytes\":0,\"granted_size_in_bytes\":76,\"limit_size_in_bytes\":1073741824,\"overhead_percent\":200,\"tripped\":0},\"parent\":{\"estimated_size_in_bytes\":19,\"granted_size_in_bytes\":4832,\"limit_size_in_bytes\":751619276,\"overhead_percent\":100,\"tripped\":0},\"request\":{\"estimated_size_in_bytes\":0,\"granted_size_in_bytes\":4737,\"limit_size_in_bytes\":4865,\"overhead_percent\":100,\"tripped\":1}}}\n") refl refl (record { form = refl; each = ((refl, inl refl), tt) }, tt) refl refl refl

abbrev refused_by_the_parent_input : List ℕ
refused_by_the_parent_input = codes "{\"index\":\"i\",\"mappings\":{\"properties\":{\"b\":{\"type\":\"boolean\"},\"n\":{\"type\":\"long\"},\"t\":{\"type\":\"keyword\"}}},\"settings\":{\"number_of_shards\":1}}\n\n{\"index\":{}}\n{\"t\":\"a\"}\n{\"index\":{}}\n{\"t\":\"b\"}\n\n{}\n{\"aggs\":{\"t\":{\"terms\":{\"field\":\"t\"}}}}\n"

refused_by_the_parent : Writes no_change (Ok (settings (record default_limits { parent = 95 }))) refused_by_the_parent_input (length refused_by_the_parent_input) 0 (codes "{\"errors\":false,\"items\":[{\"index\":{\"_id\":\"_auto_0\",\"_index\":\"i\",\"result\":\"created\",\"status\":201}},{\"index\":{\"_id\":\"_auto_1\",\"_index\":\"i\",\"result\":\"created\",\"status\":201}}],\"took\":0}\n{\"error\":{\"bytes_limit\":95,\"bytes_wanted\":4703,\"durability\":\"TRANSIENT\",\"reason\":\"[parent] Data too large, data for [search] would be [4703b], which is larger than the limit of [95b]\",\"type\":\"circuit_breaking_exception\"},\"status\":429}\n{\"breakers\":{\"fielddata\":{\"estimated_size_in_bytes\":19,\"granted_size_in_bytes\":19,\"limit_size_in_bytes\":429496729,\"overhead_percent\":103,\"tripped\":0},\"inflight_requests\":{\"estimated_size_in_bytes\":0,\"granted_size_in_bytes\":76,\"limit_size_in_bytes\":1073741824,\"overhead_percent\":200,\"tripped\":0},\"parent\":{\"estimated_size_in_bytes\":19,\"granted_size_in_bytes\":95,\"limit_size_in_bytes\":95,\"overhead_percent\":100,\"tripped\":1},\"request\":{\"estimated_size_in_bytes\":0,\"granted_size_in_bytes\":0,\"limit_size_in_bytes\":644245094,\"overhead_percent\":100,\"tripped\":0}}}\n")
unfolding computing reading_computing
refused_by_the_parent = well no_change (settings (record default_limits { parent = 95 })) refused_by_the_parent_input (length refused_by_the_parent_input) (codes "{\"errors\":false,\"items\":[{\"index\":{\"_id\":\"_auto_0\",\"_index\":\"i\",\"result\":\"created\",\"status\":201}},{\"index\":{\"_id\":\"_auto_1\",\"_index\":\"i\",\"result\":\"created\",\"status\":201}}],\"took\":0}\n{\"error\":{\"bytes_limit\":95,\"bytes_wanted\":4703,\"durability\":\"TRANSIENT\",\"reason\":\"[parent] Data too large, data for [search] would be [4703b], which is larger than the limit of [95b]\",\"type\":\"circuit_breaking_exception\"},\"status\":429}\n{\"breakers\":{\"fielddata\":{\"estimated_size_in_bytes\":19,\"granted_size_in_bytes\":19,\"limit_size_in_bytes\":429496729,\"overhead_percent\":103,\"tripped\":0},\"inflight_requests\":{\"estimated_size_in_bytes\":0,\"granted_size_in_bytes\":76,\"limit_size_in_bytes\":1073741824,\"overhead_percent\":200,\"tripped\":0},\"parent\":{\"estimated_size_in_bytes\":19,\"granted_size_in_bytes\":95,\"limit_size_in_bytes\":95,\"overhead_percent\":100,\"tripped\":1},\"request\":{\"estimated_size_in_bytes\":0,\"granted_size_in_bytes\":0,\"limit_size_in_bytes\":644245094,\"overhead_percent\":100,\"tripped\":0}}}\n") refl refl (record { form = refl; each = ((refl, inl refl), tt) }, tt) refl refl refl

abbrev columns_beyond_a_limit_input : List ℕ
columns_beyond_a_limit_input = codes "{\"index\":\"i\",\"mappings\":{\"properties\":{\"b\":{\"type\":\"boolean\"},\"n\":{\"type\":\"long\"},\"t\":{\"type\":\"keyword\"}}},\"settings\":{\"number_of_shards\":1}}\n\n{\"index\":{}}\n{\"t\":\"a\"}\n{\"index\":{}}\n{\"t\":\"b\"}\n\n{}\n{\"aggs\":{\"t\":{\"terms\":{\"field\":\"t\"}}}}\n"

columns_beyond_a_limit : Writes no_change (Ok (settings (record default_limits { fielddata = 18 }))) columns_beyond_a_limit_input (length columns_beyond_a_limit_input) 6 (codes "{\"error\":{\"bytes_limit\":18,\"bytes_wanted\":19,\"durability\":\"PERMANENT\",\"reason\":\"[fielddata] Data too large, data for [columns] would be [19b], which is larger than the limit of [18b]\",\"type\":\"circuit_breaking_exception\"},\"status\":6}\n")
unfolding computing reading_computing
columns_beyond_a_limit = record {
  written = _;
  piece = [];
  output = record { printed = refl; by_status = inl (inr (inr (refl, refl)), refl) };
  bytes = refl;
}

abbrev body_that_is_not_json_input : List ℕ
body_that_is_not_json_input = codes "{\"index\":\"i\",\"mappings\":{\"properties\":{\"b\":{\"type\":\"boolean\"},\"n\":{\"type\":\"long\"},\"t\":{\"type\":\"keyword\"}}},\"settings\":{\"number_of_shards\":1}}\n\n\n{}\n{\"aggs\":\n{}\n{\"aggs\":{\"t\":{\"terms\":{\"field\":\"t\"}}}}\n"

body_that_is_not_json : Writes no_change (Ok (settings default_limits)) body_that_is_not_json_input (length body_that_is_not_json_input) 0 (codes "{\"errors\":false,\"items\":[],\"took\":0}\n{\"error\":{\"reason\":\"the body is not JSON\",\"type\":\"parsing_exception\"},\"status\":400}\n{\"_shards\":{\"failed\":0,\"skipped\":0,\"successful\":1,\"total\":1},\"aggregations\":{\"t\":{\"buckets\":[],\"doc_count_error_upper_bound\":0,\"sum_other_doc_count\":0}},\"hits\":{\"hits\":[],\"max_score\":null,\"total\":{\"relation\":\"eq\",\"value\":0}},\"status\":200,\"timed_out\":false,\"took\":0}\n{\"breakers\":{\"fielddata\":{\"estimated_size_in_bytes\":0,\"granted_size_in_bytes\":0,\"limit_size_in_bytes\":429496729,\"overhead_percent\":103,\"tripped\":0},\"inflight_requests\":{\"estimated_size_in_bytes\":0,\"granted_size_in_bytes\":92,\"limit_size_in_bytes\":1073741824,\"overhead_percent\":200,\"tripped\":0},\"parent\":{\"estimated_size_in_bytes\":0,\"granted_size_in_bytes\":4965,\"limit_size_in_bytes\":751619276,\"overhead_percent\":100,\"tripped\":0},\"request\":{\"estimated_size_in_bytes\":0,\"granted_size_in_bytes\":4873,\"limit_size_in_bytes\":644245094,\"overhead_percent\":100,\"tripped\":0}}}\n")
unfolding computing reading_computing
body_that_is_not_json = well no_change (settings default_limits) body_that_is_not_json_input (length body_that_is_not_json_input) (codes "{\"errors\":false,\"items\":[],\"took\":0}\n{\"error\":{\"reason\":\"the body is not JSON\",\"type\":\"parsing_exception\"},\"status\":400}\n{\"_shards\":{\"failed\":0,\"skipped\":0,\"successful\":1,\"total\":1},\"aggregations\":{\"t\":{\"buckets\":[],\"doc_count_error_upper_bound\":0,\"sum_other_doc_count\":0}},\"hits\":{\"hits\":[],\"max_score\":null,\"total\":{\"relation\":\"eq\",\"value\":0}},\"status\":200,\"timed_out\":false,\"took\":0}\n{\"breakers\":{\"fielddata\":{\"estimated_size_in_bytes\":0,\"granted_size_in_bytes\":0,\"limit_size_in_bytes\":429496729,\"overhead_percent\":103,\"tripped\":0},\"inflight_requests\":{\"estimated_size_in_bytes\":0,\"granted_size_in_bytes\":92,\"limit_size_in_bytes\":1073741824,\"overhead_percent\":200,\"tripped\":0},\"parent\":{\"estimated_size_in_bytes\":0,\"granted_size_in_bytes\":4965,\"limit_size_in_bytes\":751619276,\"overhead_percent\":100,\"tripped\":0},\"request\":{\"estimated_size_in_bytes\":0,\"granted_size_in_bytes\":4873,\"limit_size_in_bytes\":644245094,\"overhead_percent\":100,\"tripped\":0}}}\n") refl refl (record { form = refl; each = ((refl, inl refl), ((refl, inl refl), tt)) }, tt) refl refl refl

abbrev last_body_without_newline_input : List ℕ
last_body_without_newline_input = codes "{\"index\":\"i\",\"mappings\":{\"properties\":{\"b\":{\"type\":\"boolean\"},\"n\":{\"type\":\"long\"},\"t\":{\"type\":\"keyword\"}}},\"settings\":{\"number_of_shards\":1}}\n\n\n{}\n{\"aggs\":{\"t\":{\"terms\":{\"field\":\"t\"}}}}"

last_body_without_newline : Writes no_change (Ok (settings default_limits)) last_body_without_newline_input (length last_body_without_newline_input) 0 (codes "{\"errors\":false,\"items\":[],\"took\":0}\n{\"_shards\":{\"failed\":0,\"skipped\":0,\"successful\":1,\"total\":1},\"aggregations\":{\"t\":{\"buckets\":[],\"doc_count_error_upper_bound\":0,\"sum_other_doc_count\":0}},\"hits\":{\"hits\":[],\"max_score\":null,\"total\":{\"relation\":\"eq\",\"value\":0}},\"status\":200,\"timed_out\":false,\"took\":0}\n{\"breakers\":{\"fielddata\":{\"estimated_size_in_bytes\":0,\"granted_size_in_bytes\":0,\"limit_size_in_bytes\":429496729,\"overhead_percent\":103,\"tripped\":0},\"inflight_requests\":{\"estimated_size_in_bytes\":0,\"granted_size_in_bytes\":76,\"limit_size_in_bytes\":1073741824,\"overhead_percent\":200,\"tripped\":0},\"parent\":{\"estimated_size_in_bytes\":0,\"granted_size_in_bytes\":4949,\"limit_size_in_bytes\":751619276,\"overhead_percent\":100,\"tripped\":0},\"request\":{\"estimated_size_in_bytes\":0,\"granted_size_in_bytes\":4873,\"limit_size_in_bytes\":644245094,\"overhead_percent\":100,\"tripped\":0}}}\n")
unfolding computing reading_computing
last_body_without_newline = well no_change (settings default_limits) last_body_without_newline_input (length last_body_without_newline_input) (codes "{\"errors\":false,\"items\":[],\"took\":0}\n{\"_shards\":{\"failed\":0,\"skipped\":0,\"successful\":1,\"total\":1},\"aggregations\":{\"t\":{\"buckets\":[],\"doc_count_error_upper_bound\":0,\"sum_other_doc_count\":0}},\"hits\":{\"hits\":[],\"max_score\":null,\"total\":{\"relation\":\"eq\",\"value\":0}},\"status\":200,\"timed_out\":false,\"took\":0}\n{\"breakers\":{\"fielddata\":{\"estimated_size_in_bytes\":0,\"granted_size_in_bytes\":0,\"limit_size_in_bytes\":429496729,\"overhead_percent\":103,\"tripped\":0},\"inflight_requests\":{\"estimated_size_in_bytes\":0,\"granted_size_in_bytes\":76,\"limit_size_in_bytes\":1073741824,\"overhead_percent\":200,\"tripped\":0},\"parent\":{\"estimated_size_in_bytes\":0,\"granted_size_in_bytes\":4949,\"limit_size_in_bytes\":751619276,\"overhead_percent\":100,\"tripped\":0},\"request\":{\"estimated_size_in_bytes\":0,\"granted_size_in_bytes\":4873,\"limit_size_in_bytes\":644245094,\"overhead_percent\":100,\"tripped\":0}}}\n") refl refl (record { form = refl; each = ((refl, inl refl), tt) }, tt) refl refl refl

abbrev unknown_field_input : List ℕ
unknown_field_input = codes "{\"index\":\"i\",\"mappings\":{\"properties\":{\"b\":{\"type\":\"boolean\"},\"n\":{\"type\":\"long\"},\"t\":{\"type\":\"keyword\"}}},\"settings\":{\"number_of_shards\":1}}\n\n\n{}\n{\"aggs\":{\"t\":{\"terms\":{\"field\":\"x\"}}}}\n"

unknown_field : Writes no_change (Ok (settings default_limits)) unknown_field_input (length unknown_field_input) 0 (codes "{\"errors\":false,\"items\":[],\"took\":0}\n{\"error\":{\"code\":108,\"path\":\"/aggs/t/terms/field\",\"reason\":\"bad request\",\"type\":\"parsing_exception\"},\"status\":400}\n{\"breakers\":{\"fielddata\":{\"estimated_size_in_bytes\":0,\"granted_size_in_bytes\":0,\"limit_size_in_bytes\":429496729,\"overhead_percent\":103,\"tripped\":0},\"inflight_requests\":{\"estimated_size_in_bytes\":0,\"granted_size_in_bytes\":76,\"limit_size_in_bytes\":1073741824,\"overhead_percent\":200,\"tripped\":0},\"parent\":{\"estimated_size_in_bytes\":0,\"granted_size_in_bytes\":76,\"limit_size_in_bytes\":751619276,\"overhead_percent\":100,\"tripped\":0},\"request\":{\"estimated_size_in_bytes\":0,\"granted_size_in_bytes\":0,\"limit_size_in_bytes\":644245094,\"overhead_percent\":100,\"tripped\":0}}}\n")
unfolding computing reading_computing
unknown_field = well no_change (settings default_limits) unknown_field_input (length unknown_field_input) (codes "{\"errors\":false,\"items\":[],\"took\":0}\n{\"error\":{\"code\":108,\"path\":\"/aggs/t/terms/field\",\"reason\":\"bad request\",\"type\":\"parsing_exception\"},\"status\":400}\n{\"breakers\":{\"fielddata\":{\"estimated_size_in_bytes\":0,\"granted_size_in_bytes\":0,\"limit_size_in_bytes\":429496729,\"overhead_percent\":103,\"tripped\":0},\"inflight_requests\":{\"estimated_size_in_bytes\":0,\"granted_size_in_bytes\":76,\"limit_size_in_bytes\":1073741824,\"overhead_percent\":200,\"tripped\":0},\"parent\":{\"estimated_size_in_bytes\":0,\"granted_size_in_bytes\":76,\"limit_size_in_bytes\":751619276,\"overhead_percent\":100,\"tripped\":0},\"request\":{\"estimated_size_in_bytes\":0,\"granted_size_in_bytes\":0,\"limit_size_in_bytes\":644245094,\"overhead_percent\":100,\"tripped\":0}}}\n") refl refl (record { form = refl; each = ((refl, inl refl), tt) }, tt) refl refl refl

abbrev update_action_input : List ℕ
update_action_input = codes "{\"index\":\"i\",\"mappings\":{\"properties\":{\"b\":{\"type\":\"boolean\"},\"n\":{\"type\":\"long\"},\"t\":{\"type\":\"keyword\"}}},\"settings\":{\"number_of_shards\":1}}\n\n{\"update\":{\"_id\":\"1\"}}\n"

update_action : Writes no_change (Ok (settings default_limits)) update_action_input (length update_action_input) 5 (codes "{\"error\":{\"line\":3,\"number\":33,\"type\":\"update_not_supported\"},\"status\":5}\n")
unfolding computing reading_computing
update_action = record {
  written = _;
  piece = [];
  output = record { printed = refl; by_status = inl (inr (inl (refl, refl)), refl) };
  bytes = refl;
}

abbrev unknown_type_in_the_mapping_input : List ℕ
unknown_type_in_the_mapping_input = codes "{\"index\":\"i\",\"mappings\":{\"properties\":{\"x\":{\"type\":\"text\"}}}}\n"

unknown_type_in_the_mapping : Writes no_change (Ok (settings default_limits)) unknown_type_in_the_mapping_input (length unknown_type_in_the_mapping_input) 5 (codes "{\"error\":{\"line\":1,\"number\":31,\"path\":\"/mappings/properties/x/type\",\"type\":\"bad_index_line\"},\"status\":5}\n")
unfolding computing reading_computing
unknown_type_in_the_mapping = record {
  written = _;
  piece = [];
  output = record { printed = refl; by_status = inl (inr (inl (refl, refl)), refl) };
  bytes = refl;
}

abbrev create_of_a_live_id_input : List ℕ
create_of_a_live_id_input = codes "{\"index\":\"i\",\"mappings\":{\"properties\":{\"b\":{\"type\":\"boolean\"},\"n\":{\"type\":\"long\"},\"t\":{\"type\":\"keyword\"}}},\"settings\":{\"number_of_shards\":1}}\n\n{\"create\":{\"_id\":\"1\"}}\n{\"t\":\"a\"}\n{\"create\":{\"_id\":\"1\"}}\n{\"t\":\"b\"}\n{\"delete\":{\"_id\":\"9\"}}\n\n{}\n{\"aggs\":{\"t\":{\"terms\":{\"field\":\"t\"}}}}\n"

create_of_a_live_id : Writes no_change (Ok (settings default_limits)) create_of_a_live_id_input (length create_of_a_live_id_input) 0 (codes "{\"errors\":true,\"items\":[{\"create\":{\"_id\":\"1\",\"_index\":\"i\",\"result\":\"created\",\"status\":201}},{\"create\":{\"_id\":\"1\",\"_index\":\"i\",\"error\":{\"number\":26,\"type\":\"version_conflict_engine_exception\"},\"status\":409}},{\"delete\":{\"_id\":\"9\",\"_index\":\"i\",\"result\":\"not_found\",\"status\":404}}],\"took\":0}\n{\"_shards\":{\"failed\":0,\"skipped\":0,\"successful\":1,\"total\":1},\"aggregations\":{\"t\":{\"buckets\":[{\"doc_count\":1,\"key\":\"a\"}],\"doc_count_error_upper_bound\":0,\"sum_other_doc_count\":0}},\"hits\":{\"hits\":[],\"max_score\":null,\"total\":{\"relation\":\"eq\",\"value\":1}},\"status\":200,\"timed_out\":false,\"took\":0}\n{\"breakers\":{\"fielddata\":{\"estimated_size_in_bytes\":10,\"granted_size_in_bytes\":10,\"limit_size_in_bytes\":429496729,\"overhead_percent\":103,\"tripped\":0},\"inflight_requests\":{\"estimated_size_in_bytes\":0,\"granted_size_in_bytes\":76,\"limit_size_in_bytes\":1073741824,\"overhead_percent\":200,\"tripped\":0},\"parent\":{\"estimated_size_in_bytes\":10,\"granted_size_in_bytes\":5113,\"limit_size_in_bytes\":751619276,\"overhead_percent\":100,\"tripped\":0},\"request\":{\"estimated_size_in_bytes\":0,\"granted_size_in_bytes\":5027,\"limit_size_in_bytes\":644245094,\"overhead_percent\":100,\"tripped\":0}}}\n")
unfolding computing reading_computing
create_of_a_live_id = well no_change (settings default_limits) create_of_a_live_id_input (length create_of_a_live_id_input) (codes "{\"errors\":true,\"items\":[{\"create\":{\"_id\":\"1\",\"_index\":\"i\",\"result\":\"created\",\"status\":201}},{\"create\":{\"_id\":\"1\",\"_index\":\"i\",\"error\":{\"number\":26,\"type\":\"version_conflict_engine_exception\"},\"status\":409}},{\"delete\":{\"_id\":\"9\",\"_index\":\"i\",\"result\":\"not_found\",\"status\":404}}],\"took\":0}\n{\"_shards\":{\"failed\":0,\"skipped\":0,\"successful\":1,\"total\":1},\"aggregations\":{\"t\":{\"buckets\":[{\"doc_count\":1,\"key\":\"a\"}],\"doc_count_error_upper_bound\":0,\"sum_other_doc_count\":0}},\"hits\":{\"hits\":[],\"max_score\":null,\"total\":{\"relation\":\"eq\",\"value\":1}},\"status\":200,\"timed_out\":false,\"took\":0}\n{\"breakers\":{\"fielddata\":{\"estimated_size_in_bytes\":10,\"granted_size_in_bytes\":10,\"limit_size_in_bytes\":429496729,\"overhead_percent\":103,\"tripped\":0},\"inflight_requests\":{\"estimated_size_in_bytes\":0,\"granted_size_in_bytes\":76,\"limit_size_in_bytes\":1073741824,\"overhead_percent\":200,\"tripped\":0},\"parent\":{\"estimated_size_in_bytes\":10,\"granted_size_in_bytes\":5113,\"limit_size_in_bytes\":751619276,\"overhead_percent\":100,\"tripped\":0},\"request\":{\"estimated_size_in_bytes\":0,\"granted_size_in_bytes\":5027,\"limit_size_in_bytes\":644245094,\"overhead_percent\":100,\"tripped\":0}}}\n") refl refl (record { form = refl; each = ((refl, inl refl), tt) }, tt) refl refl refl

abbrev header_without_a_body_input : List ℕ
header_without_a_body_input = codes "{\"index\":\"i\",\"mappings\":{\"properties\":{\"b\":{\"type\":\"boolean\"},\"n\":{\"type\":\"long\"},\"t\":{\"type\":\"keyword\"}}},\"settings\":{\"number_of_shards\":1}}\n\n\n{}\n{\"aggs\":{\"t\":{\"terms\":{\"field\":\"t\"}}}}\n{}\n"

header_without_a_body : Writes no_change (Ok (settings default_limits)) header_without_a_body_input (length header_without_a_body_input) 5 (codes "{\"errors\":false,\"items\":[],\"took\":0}\n{\"_shards\":{\"failed\":0,\"skipped\":0,\"successful\":1,\"total\":1},\"aggregations\":{\"t\":{\"buckets\":[],\"doc_count_error_upper_bound\":0,\"sum_other_doc_count\":0}},\"hits\":{\"hits\":[],\"max_score\":null,\"total\":{\"relation\":\"eq\",\"value\":0}},\"status\":200,\"timed_out\":false,\"took\":0}\n{\"error\":{\"line\":6,\"number\":36,\"type\":\"missing_body\"},\"status\":5}\n")
unfolding computing reading_computing
header_without_a_body = refused_at no_change (settings default_limits) header_without_a_body_input (length header_without_a_body_input) (codes "{\"errors\":false,\"items\":[],\"took\":0}\n{\"_shards\":{\"failed\":0,\"skipped\":0,\"successful\":1,\"total\":1},\"aggregations\":{\"t\":{\"buckets\":[],\"doc_count_error_upper_bound\":0,\"sum_other_doc_count\":0}},\"hits\":{\"hits\":[],\"max_score\":null,\"total\":{\"relation\":\"eq\",\"value\":0}},\"status\":200,\"timed_out\":false,\"took\":0}\n{\"error\":{\"line\":6,\"number\":36,\"type\":\"missing_body\"},\"status\":5}\n") _ refl refl (record { form = refl; each = ((refl, inl refl), tt) }, tt) refl refl

abbrev wrong_header_input : List ℕ
wrong_header_input = codes "{\"index\":\"i\",\"mappings\":{\"properties\":{\"b\":{\"type\":\"boolean\"},\"n\":{\"type\":\"long\"},\"t\":{\"type\":\"keyword\"}}},\"settings\":{\"number_of_shards\":1}}\n\n\n{}\n{\"aggs\":{\"t\":{\"terms\":{\"field\":\"t\"}}}}\n[]\n{\"aggs\":{\"t\":{\"terms\":{\"field\":\"t\"}}}}\n"

wrong_header : Writes no_change (Ok (settings default_limits)) wrong_header_input (length wrong_header_input) 5 (codes "{\"errors\":false,\"items\":[],\"took\":0}\n{\"_shards\":{\"failed\":0,\"skipped\":0,\"successful\":1,\"total\":1},\"aggregations\":{\"t\":{\"buckets\":[],\"doc_count_error_upper_bound\":0,\"sum_other_doc_count\":0}},\"hits\":{\"hits\":[],\"max_score\":null,\"total\":{\"relation\":\"eq\",\"value\":0}},\"status\":200,\"timed_out\":false,\"took\":0}\n{\"error\":{\"line\":6,\"number\":39,\"type\":\"bad_header\"},\"status\":5}\n")
unfolding computing reading_computing
wrong_header = refused_at no_change (settings default_limits) wrong_header_input (length wrong_header_input) (codes "{\"errors\":false,\"items\":[],\"took\":0}\n{\"_shards\":{\"failed\":0,\"skipped\":0,\"successful\":1,\"total\":1},\"aggregations\":{\"t\":{\"buckets\":[],\"doc_count_error_upper_bound\":0,\"sum_other_doc_count\":0}},\"hits\":{\"hits\":[],\"max_score\":null,\"total\":{\"relation\":\"eq\",\"value\":0}},\"status\":200,\"timed_out\":false,\"took\":0}\n{\"error\":{\"line\":6,\"number\":39,\"type\":\"bad_header\"},\"status\":5}\n") _ refl refl (record { form = refl; each = ((refl, inl refl), tt) }, tt) refl refl

abbrev empty_input_input : List ℕ
empty_input_input = codes ""

empty_input : Writes no_change (Ok (settings default_limits)) empty_input_input (length empty_input_input) 5 (codes "{\"error\":{\"line\":0,\"number\":38,\"type\":\"missing_section\"},\"status\":5}\n")
unfolding computing reading_computing
empty_input = record {
  written = _;
  piece = [];
  output = record { printed = refl; by_status = inl (inr (inl (refl, refl)), refl) };
  bytes = refl;
}
