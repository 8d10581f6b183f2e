-- Outputs of scripts with settings lines, from the bytes of the words and of the input to the bytes that are written, by one worker.
use Rattle.std.specs.Prelude.{◌≡◌, refl, ℕ, true, false, List, [], ◌∷◌, length, take, Option, Some, None, Ok, codes}
use Rattle.std.proofs.Common.{inl, lit≤}
use Rattle.clap.specs.Walk.{Text}
use Rattle.serde_json.specs.Data.{Data, object, string, number, unsigned, member, no_members}
use Rattle.agg_model.specs.declared.query.Query.TheVariants.{All}
use Rattle.agg_model.specs.declared.aggregation.Kind.TheVariants.{Terms}
use Rattle.agg_model.specs.declared.breaker.Totals.{Totals}
use Rattle.agg_model.specs.declared.breaker.Which.TheVariants as which
use Rattle.agg_model.specs.declared.outcome.Answered.{Answered}
use Rattle.agg_model.specs.declared.outcome.Outcome.TheVariants as ended
use Rattle.agg_model.specs.declared.settings.Settings.{Settings}
use Rattle.agg_settings.specs.Changes.{changed}
use Rattle.agg_settings.specs.Settings.{settings_of}
use Rattle.agg_reading.specs.Script.{loaded}
use Rattle.agg_spec.specs.Outcome.{Request}
use Rattle.agg_spec.specs.Output.{answered, script_from, whole_lines}
use Rattle.agg_spec.specs.Rounds.{Round}
use Rattle.agg_spec.specs.Wave.{MayAnswerWave}
use Rattle.agg_spec.specs.Written.{told}
use Rattle.answer_laws.proofs.Rounds.{all_within}
use Rattle.agg_spec.specs.Index.{Index}
use Rattle.agg_spec.specs.Requests.{LoadedScript, Segment}
use Rattle.agg_spec.specs.Solo.{idle, solo_answer}
use Rattle.agg_spec.specs.Statistics.{solo_totals}
use Rattle.agg_spec.proofs.Samples.{words, by_count, leaf, search_of, stats, default_limits, settings, request_limit}
use Rattle.answer_laws.proofs.Scripts.{all_created, document, automatic, index_of, asked, script, round}
use Rattle.answer_laws.proofs.Runs.{Writes, Reads, by_words, all_lines, ends_well, ends_stopped}
use Rattle.agg_settings.proofs.Computing.{computing as words_computing}
use Rattle.agg_settings.proofs.ComputingLines.{computing as lines_computing}
use Rattle.agg_reading.proofs.Computing.{computing as reading_computing}
use Rattle.agg_spec.proofs.Computing.{computing}

abbrev pub two_words : Index
two_words = index_of ((document (automatic 0) (words (codes "a" ∷ []) ∷ []) ∷ document (automatic 1) (words (codes "b" ∷ []) ∷ []) ∷ []) ∷ [])

abbrev pub terms : Request
terms = asked 38 (search_of All (leaf (codes "t") (Terms 2 10 25 1 by_count None [] None false) ∷ []))

-- a settings line with one setting
abbrev setting : List ℕ → List ℕ → Data → Data
setting scope name value = object (member scope (object (member name value no_members)) no_members)

abbrev ends_with : Option Data → Segment
ends_with line = record { requests = terms ∷ []; change = line }

abbrev exception : Answered
exception = record { outcome = ended.Tripped (record { which = which.Request; wanted = 4866; limit = 4865 }); failures = [] }

abbrev pub response : Answered
response = record { outcome = ended.Response (codes "{\"_shards\":{\"failed\":0,\"skipped\":0,\"successful\":1,\"total\":1},\"aggregations\":{\"t\":{\"buckets\":[{\"doc_count\":1,\"key\":\"a\"},{\"doc_count\":1,\"key\":\"b\"}],\"doc_count_error_upper_bound\":0,\"sum_other_doc_count\":0}},\"hits\":{\"hits\":[],\"max_score\":null,\"total\":{\"relation\":\"eq\",\"value\":2}},\"status\":200,\"timed_out\":false,\"took\":0}"); failures = [] }

refused_at_first : exception ≡ solo_answer (request_limit 4865) two_words (idle 19) terms
unfolding computing
refused_at_first = refl

granted_later : response ≡ solo_answer (request_limit 4866) two_words (idle 19) terms
unfolding computing
granted_later = refl

-- A limit is raised by one byte, and the statistics start anew.
abbrev raised_limit_words : List Text
raised_limit_words = codes "-E" ∷ codes "indices.breaker.request.limit=4865b" ∷ []

abbrev raised_limit_settings : Settings
raised_limit_settings = request_limit 4865

raised_limit_words_are_read : settings_of true raised_limit_words ≡ Ok raised_limit_settings
unfolding words_computing
raised_limit_words_are_read = refl

abbrev raised_limit_input : List ℕ
raised_limit_input = codes "{\"index\":\"i\",\"mappings\":{\"properties\":{\"b\":{\"type\":\"boolean\"},\"n\":{\"type\":\"long\"},\"t\":{\"type\":\"keyword\"}}},\"settings\":{\"number_of_shards\":1}}\n\n{\"index\":{}}\n{\"t\":\"a\"}\n{\"index\":{}}\n{\"t\":\"b\"}\n\n{}\n{\"aggs\":{\"t\":{\"terms\":{\"field\":\"t\"}}}}\n{\"persistent\":{\"indices.breaker.request.limit\":\"4866b\"}}\n{}\n{\"aggs\":{\"t\":{\"terms\":{\"field\":\"t\"}}}}\n"

abbrev raised_limit_script : LoadedScript
raised_limit_script = script two_words (all_created 2) 19 (ends_with (Some (setting (codes "persistent") (codes "indices.breaker.request.limit") (string (codes "4866b")))) ∷ ends_with None ∷ [])

raised_limit_is_read : Reads raised_limit_settings raised_limit_input raised_limit_script
unfolding computing reading_computing
raised_limit_is_read = refl

abbrev raised_limit_totals : Totals
raised_limit_totals = record { request = stats 0 5182 4866 100 0; fielddata = stats 19 19 429496729 103 0; inflight = stats 0 76 1073741824 200 0; parent = stats 19 5277 751619276 100 0 }

raised_limit_add_up : raised_limit_totals ≡ solo_totals (request_limit 4866) two_words 19 (round (request_limit 4866) terms response ∷ [])
unfolding computing
raised_limit_add_up = refl

raised_limit : Writes changed (settings_of true raised_limit_words) raised_limit_input (length raised_limit_input) 0 (codes "{\"errors\":false,\"items\":[{\"index\":{\"_id\":\"_auto_0\",\"_index\":\"i\",\"result\":\"created\",\"status\":201}},{\"index\":{\"_id\":\"_auto_1\",\"_index\":\"i\",\"result\":\"created\",\"status\":201}}],\"took\":0}\n{\"error\":{\"bytes_limit\":4865,\"bytes_wanted\":4866,\"durability\":\"TRANSIENT\",\"reason\":\"[request] Data too large, data for [search] would be [4866b], which is larger than the limit of [4865b]\",\"type\":\"circuit_breaking_exception\"},\"status\":429}\n{\"acknowledged\":true}\n{\"_shards\":{\"failed\":0,\"skipped\":0,\"successful\":1,\"total\":1},\"aggregations\":{\"t\":{\"buckets\":[{\"doc_count\":1,\"key\":\"a\"},{\"doc_count\":1,\"key\":\"b\"}],\"doc_count_error_upper_bound\":0,\"sum_other_doc_count\":0}},\"hits\":{\"hits\":[],\"max_score\":null,\"total\":{\"relation\":\"eq\",\"value\":2}},\"status\":200,\"timed_out\":false,\"took\":0}\n{\"breakers\":{\"fielddata\":{\"estimated_size_in_bytes\":19,\"granted_size_in_bytes\":19,\"limit_size_in_bytes\":429496729,\"overhead_percent\":103,\"tripped\":0},\"inflight_requests\":{\"estimated_size_in_bytes\":0,\"granted_size_in_bytes\":76,\"limit_size_in_bytes\":1073741824,\"overhead_percent\":200,\"tripped\":0},\"parent\":{\"estimated_size_in_bytes\":19,\"granted_size_in_bytes\":5277,\"limit_size_in_bytes\":751619276,\"overhead_percent\":100,\"tripped\":0},\"request\":{\"estimated_size_in_bytes\":0,\"granted_size_in_bytes\":5182,\"limit_size_in_bytes\":4866,\"overhead_percent\":100,\"tripped\":0}}}\n")
unfolding computing lines_computing
raised_limit = by_words raised_limit_words_are_read (ends_well changed raised_limit_settings raised_limit_input (length raised_limit_input) raised_limit_script ((round (request_limit 4865) terms exception ∷ []) ∷ (round (request_limit 4866) terms response ∷ []) ∷ []) (codes "{\"errors\":false,\"items\":[{\"index\":{\"_id\":\"_auto_0\",\"_index\":\"i\",\"result\":\"created\",\"status\":201}},{\"index\":{\"_id\":\"_auto_1\",\"_index\":\"i\",\"result\":\"created\",\"status\":201}}],\"took\":0}\n{\"error\":{\"bytes_limit\":4865,\"bytes_wanted\":4866,\"durability\":\"TRANSIENT\",\"reason\":\"[request] Data too large, data for [search] would be [4866b], which is larger than the limit of [4865b]\",\"type\":\"circuit_breaking_exception\"},\"status\":429}\n{\"acknowledged\":true}\n{\"_shards\":{\"failed\":0,\"skipped\":0,\"successful\":1,\"total\":1},\"aggregations\":{\"t\":{\"buckets\":[{\"doc_count\":1,\"key\":\"a\"},{\"doc_count\":1,\"key\":\"b\"}],\"doc_count_error_upper_bound\":0,\"sum_other_doc_count\":0}},\"hits\":{\"hits\":[],\"max_score\":null,\"total\":{\"relation\":\"eq\",\"value\":2}},\"status\":200,\"timed_out\":false,\"took\":0}\n{\"breakers\":{\"fielddata\":{\"estimated_size_in_bytes\":19,\"granted_size_in_bytes\":19,\"limit_size_in_bytes\":429496729,\"overhead_percent\":103,\"tripped\":0},\"inflight_requests\":{\"estimated_size_in_bytes\":0,\"granted_size_in_bytes\":76,\"limit_size_in_bytes\":1073741824,\"overhead_percent\":200,\"tripped\":0},\"parent\":{\"estimated_size_in_bytes\":19,\"granted_size_in_bytes\":5277,\"limit_size_in_bytes\":751619276,\"overhead_percent\":100,\"tripped\":0},\"request\":{\"estimated_size_in_bytes\":0,\"granted_size_in_bytes\":5182,\"limit_size_in_bytes\":4866,\"overhead_percent\":100,\"tripped\":0}}}\n") raised_limit_totals raised_limit_is_read refl (record { form = refl; each = ((refl, inl refused_at_first), tt) }, (record { form = refl; each = ((refl, inl granted_later), tt) }, tt)) raised_limit_add_up refl refl)

-- A limit that the columns are beyond is refused.
abbrev columns_beyond_a_new_limit_words : List Text
columns_beyond_a_new_limit_words = codes "-E" ∷ codes "indices.breaker.request.limit=4865b" ∷ []

abbrev columns_beyond_a_new_limit_settings : Settings
columns_beyond_a_new_limit_settings = request_limit 4865

columns_beyond_a_new_limit_words_are_read : settings_of true columns_beyond_a_new_limit_words ≡ Ok columns_beyond_a_new_limit_settings
unfolding words_computing
columns_beyond_a_new_limit_words_are_read = refl

abbrev columns_beyond_a_new_limit_input : List ℕ
columns_beyond_a_new_limit_input = codes "{\"index\":\"i\",\"mappings\":{\"properties\":{\"b\":{\"type\":\"boolean\"},\"n\":{\"type\":\"long\"},\"t\":{\"type\":\"keyword\"}}},\"settings\":{\"number_of_shards\":1}}\n\n{\"index\":{}}\n{\"t\":\"a\"}\n{\"index\":{}}\n{\"t\":\"b\"}\n\n{}\n{\"aggs\":{\"t\":{\"terms\":{\"field\":\"t\"}}}}\n{\"transient\":{\"indices.breaker.fielddata.limit\":\"18b\"}}\n{}\n{\"aggs\":{\"t\":{\"terms\":{\"field\":\"t\"}}}}\n"

abbrev columns_beyond_a_new_limit_script : LoadedScript
columns_beyond_a_new_limit_script = script two_words (all_created 2) 19 (ends_with (Some (setting (codes "transient") (codes "indices.breaker.fielddata.limit") (string (codes "18b")))) ∷ ends_with None ∷ [])

columns_beyond_a_new_limit_is_read : Reads columns_beyond_a_new_limit_settings columns_beyond_a_new_limit_input columns_beyond_a_new_limit_script
unfolding computing reading_computing
columns_beyond_a_new_limit_is_read = refl

abbrev columns_beyond_a_new_limit_totals : Totals
columns_beyond_a_new_limit_totals = record { request = stats 0 9474 4865 100 2; fielddata = stats 19 19 429496729 103 0; inflight = stats 0 152 1073741824 200 0; parent = stats 19 9645 751619276 100 0 }

columns_beyond_a_new_limit_add_up : columns_beyond_a_new_limit_totals ≡ solo_totals (request_limit 4865) two_words 19 (round (request_limit 4865) terms exception ∷ round (request_limit 4865) terms exception ∷ [])
unfolding computing
columns_beyond_a_new_limit_add_up = refl

columns_beyond_a_new_limit : Writes changed (settings_of true columns_beyond_a_new_limit_words) columns_beyond_a_new_limit_input (length columns_beyond_a_new_limit_input) 0 (codes "{\"errors\":false,\"items\":[{\"index\":{\"_id\":\"_auto_0\",\"_index\":\"i\",\"result\":\"created\",\"status\":201}},{\"index\":{\"_id\":\"_auto_1\",\"_index\":\"i\",\"result\":\"created\",\"status\":201}}],\"took\":0}\n{\"error\":{\"bytes_limit\":4865,\"bytes_wanted\":4866,\"durability\":\"TRANSIENT\",\"reason\":\"[request] Data too large, data for [search] would be [4866b], which is larger than the limit of [4865b]\",\"type\":\"circuit_breaking_exception\"},\"status\":429}\n{\"error\":{\"bytes_limit\":18,\"bytes_wanted\":19,\"durability\":\"PERMANENT\",\"reason\":\"[fielddata] Data too large, data for [columns] would be [19b], which is larger than the limit of [18b]\",\"type\":\"circuit_breaking_exception\"},\"status\":429}\n{\"error\":{\"bytes_limit\":4865,\"bytes_wanted\":4866,\"durability\":\"TRANSIENT\",\"reason\":\"[request] Data too large, data for [search] would be [4866b], which is larger than the limit of [4865b]\",\"type\":\"circuit_breaking_exception\"},\"status\":429}\n{\"breakers\":{\"fielddata\":{\"estimated_size_in_bytes\":19,\"granted_size_in_bytes\":19,\"limit_size_in_bytes\":429496729,\"overhead_percent\":103,\"tripped\":0},\"inflight_requests\":{\"estimated_size_in_bytes\":0,\"granted_size_in_bytes\":152,\"limit_size_in_bytes\":1073741824,\"overhead_percent\":200,\"tripped\":0},\"parent\":{\"estimated_size_in_bytes\":19,\"granted_size_in_bytes\":9645,\"limit_size_in_bytes\":751619276,\"overhead_percent\":100,\"tripped\":0},\"request\":{\"estimated_size_in_bytes\":0,\"granted_size_in_bytes\":9474,\"limit_size_in_bytes\":4865,\"overhead_percent\":100,\"tripped\":2}}}\n")
unfolding computing lines_computing
columns_beyond_a_new_limit = by_words columns_beyond_a_new_limit_words_are_read (ends_well changed columns_beyond_a_new_limit_settings columns_beyond_a_new_limit_input (length columns_beyond_a_new_limit_input) columns_beyond_a_new_limit_script ((round (request_limit 4865) terms exception ∷ []) ∷ (round (request_limit 4865) terms exception ∷ []) ∷ []) (codes "{\"errors\":false,\"items\":[{\"index\":{\"_id\":\"_auto_0\",\"_index\":\"i\",\"result\":\"created\",\"status\":201}},{\"index\":{\"_id\":\"_auto_1\",\"_index\":\"i\",\"result\":\"created\",\"status\":201}}],\"took\":0}\n{\"error\":{\"bytes_limit\":4865,\"bytes_wanted\":4866,\"durability\":\"TRANSIENT\",\"reason\":\"[request] Data too large, data for [search] would be [4866b], which is larger than the limit of [4865b]\",\"type\":\"circuit_breaking_exception\"},\"status\":429}\n{\"error\":{\"bytes_limit\":18,\"bytes_wanted\":19,\"durability\":\"PERMANENT\",\"reason\":\"[fielddata] Data too large, data for [columns] would be [19b], which is larger than the limit of [18b]\",\"type\":\"circuit_breaking_exception\"},\"status\":429}\n{\"error\":{\"bytes_limit\":4865,\"bytes_wanted\":4866,\"durability\":\"TRANSIENT\",\"reason\":\"[request] Data too large, data for [search] would be [4866b], which is larger than the limit of [4865b]\",\"type\":\"circuit_breaking_exception\"},\"status\":429}\n{\"breakers\":{\"fielddata\":{\"estimated_size_in_bytes\":19,\"granted_size_in_bytes\":19,\"limit_size_in_bytes\":429496729,\"overhead_percent\":103,\"tripped\":0},\"inflight_requests\":{\"estimated_size_in_bytes\":0,\"granted_size_in_bytes\":152,\"limit_size_in_bytes\":1073741824,\"overhead_percent\":200,\"tripped\":0},\"parent\":{\"estimated_size_in_bytes\":19,\"granted_size_in_bytes\":9645,\"limit_size_in_bytes\":751619276,\"overhead_percent\":100,\"tripped\":0},\"request\":{\"estimated_size_in_bytes\":0,\"granted_size_in_bytes\":9474,\"limit_size_in_bytes\":4865,\"overhead_percent\":100,\"tripped\":2}}}\n") columns_beyond_a_new_limit_totals columns_beyond_a_new_limit_is_read refl (record { form = refl; each = ((refl, inl refused_at_first), tt) }, (record { form = refl; each = ((refl, inl refused_at_first), tt) }, tt)) columns_beyond_a_new_limit_add_up refl refl)

-- A name that is no setting is refused.
abbrev unknown_name_words : List Text
unknown_name_words = []

abbrev unknown_name_settings : Settings
unknown_name_settings = settings default_limits

unknown_name_words_are_read : settings_of true unknown_name_words ≡ Ok unknown_name_settings
unfolding words_computing
unknown_name_words_are_read = refl

abbrev unknown_name_input : List ℕ
unknown_name_input = codes "{\"index\":\"i\",\"mappings\":{\"properties\":{\"b\":{\"type\":\"boolean\"},\"n\":{\"type\":\"long\"},\"t\":{\"type\":\"keyword\"}}},\"settings\":{\"number_of_shards\":1}}\n\n{\"index\":{}}\n{\"t\":\"a\"}\n{\"index\":{}}\n{\"t\":\"b\"}\n\n{\"persistent\":{\"x\":1}}\n"

abbrev unknown_name_script : LoadedScript
unknown_name_script = script two_words (all_created 2) 19 (record { requests = []; change = Some (setting (codes "persistent") (codes "x") (number (unsigned 1))) } ∷ record { requests = []; change = None } ∷ [])

unknown_name_is_read : Reads unknown_name_settings unknown_name_input unknown_name_script
unfolding computing reading_computing
unknown_name_is_read = refl

abbrev unknown_name_totals : Totals
unknown_name_totals = record { request = stats 0 0 644245094 100 0; fielddata = stats 19 19 429496729 103 0; inflight = stats 0 0 1073741824 200 0; parent = stats 19 19 751619276 100 0 }

unknown_name_add_up : unknown_name_totals ≡ solo_totals (settings default_limits) two_words 19 ([])
unfolding computing
unknown_name_add_up = refl

unknown_name : Writes changed (settings_of true unknown_name_words) unknown_name_input (length unknown_name_input) 0 (codes "{\"errors\":false,\"items\":[{\"index\":{\"_id\":\"_auto_0\",\"_index\":\"i\",\"result\":\"created\",\"status\":201}},{\"index\":{\"_id\":\"_auto_1\",\"_index\":\"i\",\"result\":\"created\",\"status\":201}}],\"took\":0}\n{\"error\":{\"key\":\"x\",\"type\":\"settings_exception\"},\"status\":400}\n{\"breakers\":{\"fielddata\":{\"estimated_size_in_bytes\":19,\"granted_size_in_bytes\":19,\"limit_size_in_bytes\":429496729,\"overhead_percent\":103,\"tripped\":0},\"inflight_requests\":{\"estimated_size_in_bytes\":0,\"granted_size_in_bytes\":0,\"limit_size_in_bytes\":1073741824,\"overhead_percent\":200,\"tripped\":0},\"parent\":{\"estimated_size_in_bytes\":19,\"granted_size_in_bytes\":19,\"limit_size_in_bytes\":751619276,\"overhead_percent\":100,\"tripped\":0},\"request\":{\"estimated_size_in_bytes\":0,\"granted_size_in_bytes\":0,\"limit_size_in_bytes\":644245094,\"overhead_percent\":100,\"tripped\":0}}}\n")
unfolding computing lines_computing
unknown_name = by_words unknown_name_words_are_read (ends_well changed unknown_name_settings unknown_name_input (length unknown_name_input) unknown_name_script ([] ∷ [] ∷ []) (codes "{\"errors\":false,\"items\":[{\"index\":{\"_id\":\"_auto_0\",\"_index\":\"i\",\"result\":\"created\",\"status\":201}},{\"index\":{\"_id\":\"_auto_1\",\"_index\":\"i\",\"result\":\"created\",\"status\":201}}],\"took\":0}\n{\"error\":{\"key\":\"x\",\"type\":\"settings_exception\"},\"status\":400}\n{\"breakers\":{\"fielddata\":{\"estimated_size_in_bytes\":19,\"granted_size_in_bytes\":19,\"limit_size_in_bytes\":429496729,\"overhead_percent\":103,\"tripped\":0},\"inflight_requests\":{\"estimated_size_in_bytes\":0,\"granted_size_in_bytes\":0,\"limit_size_in_bytes\":1073741824,\"overhead_percent\":200,\"tripped\":0},\"parent\":{\"estimated_size_in_bytes\":19,\"granted_size_in_bytes\":19,\"limit_size_in_bytes\":751619276,\"overhead_percent\":100,\"tripped\":0},\"request\":{\"estimated_size_in_bytes\":0,\"granted_size_in_bytes\":0,\"limit_size_in_bytes\":644245094,\"overhead_percent\":100,\"tripped\":0}}}\n") unknown_name_totals unknown_name_is_read refl (record { form = refl; each = tt }, (record { form = refl; each = tt }, tt)) unknown_name_add_up refl refl)

-- listeners are told of the answers in the second and the fourth line, and not of the settings line between them
settings_lines_are_not_told : told (all_lines changed raised_limit_settings raised_limit_input (length raised_limit_input) raised_limit_script
    ((round (request_limit 4865) terms exception ∷ []) ∷ (round (request_limit 4866) terms response ∷ []) ∷ []) [] raised_limit_totals)
    ≡ record { line = 2; status = 429; bytes = 239 } ∷ record { line = 4; status = 200; bytes = 316 } ∷ []
unfolding computing lines_computing
settings_lines_are_not_told = refl

-- Two searches side by side: a settings line ends a wave of one, whose answer stands where the source fails behind it. The search
-- behind the settings line is a short wave, and is not answered.
abbrev side_by_side : Settings
side_by_side = record (settings default_limits) { width = 2 }

abbrev short_wave_input : List ℕ
short_wave_input = codes "{\"index\":\"i\",\"mappings\":{\"properties\":{\"b\":{\"type\":\"boolean\"},\"n\":{\"type\":\"long\"},\"t\":{\"type\":\"keyword\"}}},\"settings\":{\"number_of_shards\":1}}\n\n{\"index\":{}}\n{\"t\":\"a\"}\n{\"index\":{}}\n{\"t\":\"b\"}\n\n{}\n{\"aggs\":{\"t\":{\"terms\":{\"field\":\"t\"}}}}\n{\"persistent\":{\"search.max_buckets\":1}}\n{}\n{\"aggs\":{\"t\":{\"terms\":{\"field\":\"t\"}}}}\n"

abbrev short_wave_script : LoadedScript
short_wave_script = script two_words (all_created 2) 19 (ends_with (Some (setting (codes "persistent") (codes "search.max_buckets") (number (unsigned 1)))) ∷ ends_with None ∷ [])

short_wave_is_read : script_from side_by_side (loaded (whole_lines (take (length short_wave_input) short_wave_input))) ≡ answered short_wave_script
unfolding computing reading_computing
short_wave_is_read = refl

abbrev wave_of_one : Round
wave_of_one = round side_by_side terms response

wave_of_one_may_be_answered : MayAnswerWave side_by_side two_words 19 (terms ∷ []) (response ∷ [])
unfolding computing
wave_of_one_may_be_answered = ((tt, (refl, record { at_request = all_within _ 644245094 (lit≤ tt); at_parent = all_within _ 751619276 (lit≤ tt) }, record { at_request = lit≤ tt; at_parent = lit≤ tt })), tt)

short_wave_before_a_settings_line : Writes changed (Ok side_by_side) short_wave_input (length short_wave_input) 3 (codes "{\"errors\":false,\"items\":[{\"index\":{\"_id\":\"_auto_0\",\"_index\":\"i\",\"result\":\"created\",\"status\":201}},{\"index\":{\"_id\":\"_auto_1\",\"_index\":\"i\",\"result\":\"created\",\"status\":201}}],\"took\":0}\n{\"_shards\":{\"failed\":0,\"skipped\":0,\"successful\":1,\"total\":1},\"aggregations\":{\"t\":{\"buckets\":[{\"doc_count\":1,\"key\":\"a\"},{\"doc_count\":1,\"key\":\"b\"}],\"doc_count_error_upper_bound\":0,\"sum_other_doc_count\":0}},\"hits\":{\"hits\":[],\"max_score\":null,\"total\":{\"relation\":\"eq\",\"value\":2}},\"status\":200,\"timed_out\":false,\"took\":0}\n{\"acknowledged\":true}\n")
unfolding computing lines_computing
short_wave_before_a_settings_line = ends_stopped changed side_by_side short_wave_input (length short_wave_input) short_wave_script ((wave_of_one ∷ []) ∷ [] ∷ []) (codes "{\"errors\":false,\"items\":[{\"index\":{\"_id\":\"_auto_0\",\"_index\":\"i\",\"result\":\"created\",\"status\":201}},{\"index\":{\"_id\":\"_auto_1\",\"_index\":\"i\",\"result\":\"created\",\"status\":201}}],\"took\":0}\n{\"_shards\":{\"failed\":0,\"skipped\":0,\"successful\":1,\"total\":1},\"aggregations\":{\"t\":{\"buckets\":[{\"doc_count\":1,\"key\":\"a\"},{\"doc_count\":1,\"key\":\"b\"}],\"doc_count_error_upper_bound\":0,\"sum_other_doc_count\":0}},\"hits\":{\"hits\":[],\"max_score\":null,\"total\":{\"relation\":\"eq\",\"value\":2}},\"status\":200,\"timed_out\":false,\"took\":0}\n{\"acknowledged\":true}\n") refl short_wave_is_read (record { form = refl; each = ((refl, wave_of_one_may_be_answered), tt) }, (record { form = refl; each = tt }, tt)) refl refl
