-- Outputs of searches whose shards fail, from the bytes of the words and of the input to the bytes that are written, by one
-- worker ('Search API': `allow_partial_search_results`).
use Rattle.std.specs.Prelude.{◌≡◌, refl, ℕ, true, List, [], ◌∷◌, length, Ok, codes}
use Rattle.std.proofs.Common.{inl}
use Rattle.clap.specs.Walk.{Text}
use Rattle.agg_model.specs.declared.breaker.Totals.{Totals}
use Rattle.agg_model.specs.declared.breaker.Which.TheVariants as which
use Rattle.agg_model.specs.declared.outcome.Answered.{Answered}
use Rattle.agg_model.specs.declared.outcome.Failure.{Failure}
use Rattle.agg_model.specs.declared.outcome.Outcome.TheVariants as ended
use Rattle.agg_model.specs.declared.settings.Settings.{Settings}
use Rattle.agg_settings.specs.Changes.{changed}
use Rattle.agg_settings.specs.Settings.{settings_of}
use Rattle.agg_spec.specs.Outcome.{Request}
use Rattle.agg_spec.specs.Requests.{LoadedScript}
use Rattle.agg_spec.specs.Rounds.{Round}
use Rattle.agg_spec.specs.Solo.{idle, solo_answer}
use Rattle.agg_spec.specs.Statistics.{solo_totals}
use Rattle.agg_spec.proofs.Samples.{stats, request_limit}
use Rattle.answer_laws.proofs.Scripts.{all_created, asked, searches, script, round}
use Rattle.answer_laws.proofs.Runs.{Writes, Reads, by_words, ends_well}
use Rattle.answer_laws.proofs.RoutingExamples.{two_shards, one_term}
use Rattle.agg_settings.proofs.Computing.{computing as words_computing}
use Rattle.agg_reading.proofs.Computing.{computing as reading_computing}
use Rattle.agg_spec.proofs.Computing.{computing}

-- the search of one term, which leaves out shards
abbrev pub partial : Request
partial = asked 131 (record one_term { partial = true })

-- and the same search, which does not
abbrev pub whole : Request
whole = asked 95 one_term

abbrev pub failed : ℕ → ℕ → ℕ → Failure
failed shard wanted limit = record { shard = shard; tripped = record { which = which.Request; wanted = wanted; limit = limit } }

-- The second shard finds no room beside the result of the first.
abbrev second_shard_fails_words : List Text
second_shard_fails_words = codes "-E" ∷ codes "indices.breaker.request.limit=5000b" ∷ []

abbrev second_shard_fails_settings : Settings
second_shard_fails_settings = request_limit 5000

second_shard_fails_words_are_read : settings_of true second_shard_fails_words ≡ Ok second_shard_fails_settings
unfolding words_computing
second_shard_fails_words_are_read = refl

abbrev second_shard_fails_input : List ℕ
second_shard_fails_input = codes "{\"index\":\"i\",\"mappings\":{\"properties\":{\"b\":{\"type\":\"boolean\"},\"n\":{\"type\":\"long\"},\"t\":{\"type\":\"keyword\"}}},\"settings\":{\"number_of_shards\":2}}\n\n{\"index\":{\"routing\":\"1\"}}\n{\"t\":\"a\"}\n{\"index\":{\"routing\":\"1\"}}\n{\"t\":\"a\"}\n{\"index\":{\"routing\":\"1\"}}\n{\"t\":\"a\"}\n{\"index\":{\"routing\":\"1\"}}\n{\"t\":\"b\"}\n{\"index\":{\"routing\":\"1\"}}\n{\"t\":\"b\"}\n{\"index\":{\"routing\":\"0\"}}\n{\"t\":\"b\"}\n{\"index\":{\"routing\":\"0\"}}\n{\"t\":\"b\"}\n{\"index\":{\"routing\":\"0\"}}\n{\"t\":\"b\"}\n{\"index\":{\"routing\":\"0\"}}\n{\"t\":\"a\"}\n\n{}\n{\"aggs\":{\"t\":{\"terms\":{\"field\":\"t\",\"size\":1,\"shard_size\":1,\"show_term_doc_count_error\":true}}},\"allow_partial_search_results\":true}\n"

abbrev second_shard_fails_script : LoadedScript
second_shard_fails_script = script two_shards (all_created 9) 79 (searches (partial ∷ []))

second_shard_fails_is_read : Reads second_shard_fails_settings second_shard_fails_input second_shard_fails_script
unfolding computing reading_computing
second_shard_fails_is_read = refl

abbrev pub second_shard_fails_answer : Answered
second_shard_fails_answer = record { outcome = ended.Response (codes "{\"_shards\":{\"failed\":1,\"failures\":[{\"reason\":{\"bytes_limit\":5000,\"bytes_wanted\":5249,\"durability\":\"TRANSIENT\",\"reason\":\"[request] Data too large, data for [search] would be [5249b], which is larger than the limit of [5000b]\",\"type\":\"circuit_breaking_exception\"},\"shard\":1}],\"skipped\":0,\"successful\":1,\"total\":2},\"aggregations\":{\"t\":{\"buckets\":[{\"doc_count\":3,\"doc_count_error_upper_bound\":0,\"key\":\"a\"}],\"doc_count_error_upper_bound\":3,\"sum_other_doc_count\":2}},\"hits\":{\"hits\":[],\"max_score\":null,\"total\":{\"relation\":\"eq\",\"value\":5}},\"status\":200,\"timed_out\":false,\"took\":0}"); failures = failed 1 5249 5000 ∷ [] }

second_shard_fails_is_answered : second_shard_fails_answer ≡ solo_answer second_shard_fails_settings two_shards (idle 79) partial
unfolding computing
second_shard_fails_is_answered = refl

abbrev second_shard_fails_round : Round
second_shard_fails_round = round second_shard_fails_settings partial second_shard_fails_answer

abbrev second_shard_fails_totals : Totals
second_shard_fails_totals = record { request = stats 0 5439 5000 100 1; fielddata = stats 79 79 429496729 103 0; inflight = stats 0 262 1073741824 200 0; parent = stats 79 5780 751619276 100 0 }

second_shard_fails_add_up : second_shard_fails_totals ≡ solo_totals second_shard_fails_settings two_shards 79 (second_shard_fails_round ∷ [])
unfolding computing
second_shard_fails_add_up = refl

second_shard_fails : Writes changed (settings_of true second_shard_fails_words) second_shard_fails_input (length second_shard_fails_input) 0 (codes "{\"errors\":false,\"items\":[{\"index\":{\"_id\":\"_auto_0\",\"_index\":\"i\",\"result\":\"created\",\"status\":201}},{\"index\":{\"_id\":\"_auto_1\",\"_index\":\"i\",\"result\":\"created\",\"status\":201}},{\"index\":{\"_id\":\"_auto_2\",\"_index\":\"i\",\"result\":\"created\",\"status\":201}},{\"index\":{\"_id\":\"_auto_3\",\"_index\":\"i\",\"result\":\"created\",\"status\":201}},{\"index\":{\"_id\":\"_auto_4\",\"_index\":\"i\",\"result\":\"created\",\"status\":201}},{\"index\":{\"_id\":\"_auto_5\",\"_index\":\"i\",\"result\":\"created\",\"status\":201}},{\"index\":{\"_id\":\"_auto_6\",\"_index\":\"i\",\"result\":\"created\",\"status\":201}},{\"index\":{\"_id\":\"_auto_7\",\"_index\":\"i\",\"result\":\"created\",\"status\":201}},{\"index\":{\"_id\":\"_auto_8\",\"_index\":\"i\",\"result\":\"created\",\"status\":201}}],\"took\":0}\n{\"_shards\":{\"failed\":1,\"failures\":[{\"reason\":{\"bytes_limit\":5000,\"bytes_wanted\":5249,\"durability\":\"TRANSIENT\",\"reason\":\"[request] Data too large, data for [search] would be [5249b], which is larger than the limit of [5000b]\",\"type\":\"circuit_breaking_exception\"},\"shard\":1}],\"skipped\":0,\"successful\":1,\"total\":2},\"aggregations\":{\"t\":{\"buckets\":[{\"doc_count\":3,\"doc_count_error_upper_bound\":0,\"key\":\"a\"}],\"doc_count_error_upper_bound\":3,\"sum_other_doc_count\":2}},\"hits\":{\"hits\":[],\"max_score\":null,\"total\":{\"relation\":\"eq\",\"value\":5}},\"status\":200,\"timed_out\":false,\"took\":0}\n{\"breakers\":{\"fielddata\":{\"estimated_size_in_bytes\":79,\"granted_size_in_bytes\":79,\"limit_size_in_bytes\":429496729,\"overhead_percent\":103,\"tripped\":0},\"inflight_requests\":{\"estimated_size_in_bytes\":0,\"granted_size_in_bytes\":262,\"limit_size_in_bytes\":1073741824,\"overhead_percent\":200,\"tripped\":0},\"parent\":{\"estimated_size_in_bytes\":79,\"granted_size_in_bytes\":5780,\"limit_size_in_bytes\":751619276,\"overhead_percent\":100,\"tripped\":0},\"request\":{\"estimated_size_in_bytes\":0,\"granted_size_in_bytes\":5439,\"limit_size_in_bytes\":5000,\"overhead_percent\":100,\"tripped\":1}}}\n")
unfolding computing
second_shard_fails = by_words second_shard_fails_words_are_read (ends_well changed second_shard_fails_settings second_shard_fails_input (length second_shard_fails_input) second_shard_fails_script ((second_shard_fails_round ∷ []) ∷ []) (codes "{\"errors\":false,\"items\":[{\"index\":{\"_id\":\"_auto_0\",\"_index\":\"i\",\"result\":\"created\",\"status\":201}},{\"index\":{\"_id\":\"_auto_1\",\"_index\":\"i\",\"result\":\"created\",\"status\":201}},{\"index\":{\"_id\":\"_auto_2\",\"_index\":\"i\",\"result\":\"created\",\"status\":201}},{\"index\":{\"_id\":\"_auto_3\",\"_index\":\"i\",\"result\":\"created\",\"status\":201}},{\"index\":{\"_id\":\"_auto_4\",\"_index\":\"i\",\"result\":\"created\",\"status\":201}},{\"index\":{\"_id\":\"_auto_5\",\"_index\":\"i\",\"result\":\"created\",\"status\":201}},{\"index\":{\"_id\":\"_auto_6\",\"_index\":\"i\",\"result\":\"created\",\"status\":201}},{\"index\":{\"_id\":\"_auto_7\",\"_index\":\"i\",\"result\":\"created\",\"status\":201}},{\"index\":{\"_id\":\"_auto_8\",\"_index\":\"i\",\"result\":\"created\",\"status\":201}}],\"took\":0}\n{\"_shards\":{\"failed\":1,\"failures\":[{\"reason\":{\"bytes_limit\":5000,\"bytes_wanted\":5249,\"durability\":\"TRANSIENT\",\"reason\":\"[request] Data too large, data for [search] would be [5249b], which is larger than the limit of [5000b]\",\"type\":\"circuit_breaking_exception\"},\"shard\":1}],\"skipped\":0,\"successful\":1,\"total\":2},\"aggregations\":{\"t\":{\"buckets\":[{\"doc_count\":3,\"doc_count_error_upper_bound\":0,\"key\":\"a\"}],\"doc_count_error_upper_bound\":3,\"sum_other_doc_count\":2}},\"hits\":{\"hits\":[],\"max_score\":null,\"total\":{\"relation\":\"eq\",\"value\":5}},\"status\":200,\"timed_out\":false,\"took\":0}\n{\"breakers\":{\"fielddata\":{\"estimated_size_in_bytes\":79,\"granted_size_in_bytes\":79,\"limit_size_in_bytes\":429496729,\"overhead_percent\":103,\"tripped\":0},\"inflight_requests\":{\"estimated_size_in_bytes\":0,\"granted_size_in_bytes\":262,\"limit_size_in_bytes\":1073741824,\"overhead_percent\":200,\"tripped\":0},\"parent\":{\"estimated_size_in_bytes\":79,\"granted_size_in_bytes\":5780,\"limit_size_in_bytes\":751619276,\"overhead_percent\":100,\"tripped\":0},\"request\":{\"estimated_size_in_bytes\":0,\"granted_size_in_bytes\":5439,\"limit_size_in_bytes\":5000,\"overhead_percent\":100,\"tripped\":1}}}\n") second_shard_fails_totals second_shard_fails_is_read refl (record { form = refl; each = ((refl, inl second_shard_fails_is_answered), tt) }, tt) second_shard_fails_add_up refl refl)

-- Where no shard may fail the search is refused.
abbrev none_may_fail_words : List Text
none_may_fail_words = codes "-E" ∷ codes "indices.breaker.request.limit=5000b" ∷ []

abbrev none_may_fail_settings : Settings
none_may_fail_settings = request_limit 5000

none_may_fail_words_are_read : settings_of true none_may_fail_words ≡ Ok none_may_fail_settings
unfolding words_computing
none_may_fail_words_are_read = refl

abbrev none_may_fail_input : List ℕ
none_may_fail_input = codes "{\"index\":\"i\",\"mappings\":{\"properties\":{\"b\":{\"type\":\"boolean\"},\"n\":{\"type\":\"long\"},\"t\":{\"type\":\"keyword\"}}},\"settings\":{\"number_of_shards\":2}}\n\n{\"index\":{\"routing\":\"1\"}}\n{\"t\":\"a\"}\n{\"index\":{\"routing\":\"1\"}}\n{\"t\":\"a\"}\n{\"index\":{\"routing\":\"1\"}}\n{\"t\":\"a\"}\n{\"index\":{\"routing\":\"1\"}}\n{\"t\":\"b\"}\n{\"index\":{\"routing\":\"1\"}}\n{\"t\":\"b\"}\n{\"index\":{\"routing\":\"0\"}}\n{\"t\":\"b\"}\n{\"index\":{\"routing\":\"0\"}}\n{\"t\":\"b\"}\n{\"index\":{\"routing\":\"0\"}}\n{\"t\":\"b\"}\n{\"index\":{\"routing\":\"0\"}}\n{\"t\":\"a\"}\n\n{}\n{\"aggs\":{\"t\":{\"terms\":{\"field\":\"t\",\"size\":1,\"shard_size\":1,\"show_term_doc_count_error\":true}}}}\n"

abbrev none_may_fail_script : LoadedScript
none_may_fail_script = script two_shards (all_created 9) 79 (searches (whole ∷ []))

none_may_fail_is_read : Reads none_may_fail_settings none_may_fail_input none_may_fail_script
unfolding computing reading_computing
none_may_fail_is_read = refl

abbrev none_may_fail_answer : Answered
none_may_fail_answer = record { outcome = ended.Tripped (record { which = which.Request; wanted = 5249; limit = 5000 }); failures = [] }

none_may_fail_is_answered : none_may_fail_answer ≡ solo_answer none_may_fail_settings two_shards (idle 79) whole
unfolding computing
none_may_fail_is_answered = refl

abbrev none_may_fail_round : Round
none_may_fail_round = round none_may_fail_settings whole none_may_fail_answer

abbrev none_may_fail_totals : Totals
none_may_fail_totals = record { request = stats 0 4866 5000 100 1; fielddata = stats 79 79 429496729 103 0; inflight = stats 0 190 1073741824 200 0; parent = stats 79 5135 751619276 100 0 }

none_may_fail_add_up : none_may_fail_totals ≡ solo_totals none_may_fail_settings two_shards 79 (none_may_fail_round ∷ [])
unfolding computing
none_may_fail_add_up = refl

none_may_fail : Writes changed (settings_of true none_may_fail_words) none_may_fail_input (length none_may_fail_input) 0 (codes "{\"errors\":false,\"items\":[{\"index\":{\"_id\":\"_auto_0\",\"_index\":\"i\",\"result\":\"created\",\"status\":201}},{\"index\":{\"_id\":\"_auto_1\",\"_index\":\"i\",\"result\":\"created\",\"status\":201}},{\"index\":{\"_id\":\"_auto_2\",\"_index\":\"i\",\"result\":\"created\",\"status\":201}},{\"index\":{\"_id\":\"_auto_3\",\"_index\":\"i\",\"result\":\"created\",\"status\":201}},{\"index\":{\"_id\":\"_auto_4\",\"_index\":\"i\",\"result\":\"created\",\"status\":201}},{\"index\":{\"_id\":\"_auto_5\",\"_index\":\"i\",\"result\":\"created\",\"status\":201}},{\"index\":{\"_id\":\"_auto_6\",\"_index\":\"i\",\"result\":\"created\",\"status\":201}},{\"index\":{\"_id\":\"_auto_7\",\"_index\":\"i\",\"result\":\"created\",\"status\":201}},{\"index\":{\"_id\":\"_auto_8\",\"_index\":\"i\",\"result\":\"created\",\"status\":201}}],\"took\":0}\n{\"error\":{\"bytes_limit\":5000,\"bytes_wanted\":5249,\"durability\":\"TRANSIENT\",\"reason\":\"[request] Data too large, data for [search] would be [5249b], which is larger than the limit of [5000b]\",\"type\":\"circuit_breaking_exception\"},\"status\":429}\n{\"breakers\":{\"fielddata\":{\"estimated_size_in_bytes\":79,\"granted_size_in_bytes\":79,\"limit_size_in_bytes\":429496729,\"overhead_percent\":103,\"tripped\":0},\"inflight_requests\":{\"estimated_size_in_bytes\":0,\"granted_size_in_bytes\":190,\"limit_size_in_bytes\":1073741824,\"overhead_percent\":200,\"tripped\":0},\"parent\":{\"estimated_size_in_bytes\":79,\"granted_size_in_bytes\":5135,\"limit_size_in_bytes\":751619276,\"overhead_percent\":100,\"tripped\":0},\"request\":{\"estimated_size_in_bytes\":0,\"granted_size_in_bytes\":4866,\"limit_size_in_bytes\":5000,\"overhead_percent\":100,\"tripped\":1}}}\n")
unfolding computing
none_may_fail = by_words none_may_fail_words_are_read (ends_well changed none_may_fail_settings none_may_fail_input (length none_may_fail_input) none_may_fail_script ((none_may_fail_round ∷ []) ∷ []) (codes "{\"errors\":false,\"items\":[{\"index\":{\"_id\":\"_auto_0\",\"_index\":\"i\",\"result\":\"created\",\"status\":201}},{\"index\":{\"_id\":\"_auto_1\",\"_index\":\"i\",\"result\":\"created\",\"status\":201}},{\"index\":{\"_id\":\"_auto_2\",\"_index\":\"i\",\"result\":\"created\",\"status\":201}},{\"index\":{\"_id\":\"_auto_3\",\"_index\":\"i\",\"result\":\"created\",\"status\":201}},{\"index\":{\"_id\":\"_auto_4\",\"_index\":\"i\",\"result\":\"created\",\"status\":201}},{\"index\":{\"_id\":\"_auto_5\",\"_index\":\"i\",\"result\":\"created\",\"status\":201}},{\"index\":{\"_id\":\"_auto_6\",\"_index\":\"i\",\"result\":\"created\",\"status\":201}},{\"index\":{\"_id\":\"_auto_7\",\"_index\":\"i\",\"result\":\"created\",\"status\":201}},{\"index\":{\"_id\":\"_auto_8\",\"_index\":\"i\",\"result\":\"created\",\"status\":201}}],\"took\":0}\n{\"error\":{\"bytes_limit\":5000,\"bytes_wanted\":5249,\"durability\":\"TRANSIENT\",\"reason\":\"[request] Data too large, data for [search] would be [5249b], which is larger than the limit of [5000b]\",\"type\":\"circuit_breaking_exception\"},\"status\":429}\n{\"breakers\":{\"fielddata\":{\"estimated_size_in_bytes\":79,\"granted_size_in_bytes\":79,\"limit_size_in_bytes\":429496729,\"overhead_percent\":103,\"tripped\":0},\"inflight_requests\":{\"estimated_size_in_bytes\":0,\"granted_size_in_bytes\":190,\"limit_size_in_bytes\":1073741824,\"overhead_percent\":200,\"tripped\":0},\"parent\":{\"estimated_size_in_bytes\":79,\"granted_size_in_bytes\":5135,\"limit_size_in_bytes\":751619276,\"overhead_percent\":100,\"tripped\":0},\"request\":{\"estimated_size_in_bytes\":0,\"granted_size_in_bytes\":4866,\"limit_size_in_bytes\":5000,\"overhead_percent\":100,\"tripped\":1}}}\n") none_may_fail_totals none_may_fail_is_read refl (record { form = refl; each = ((refl, inl none_may_fail_is_answered), tt) }, tt) none_may_fail_add_up refl refl)

-- Where all shards fail the exception names each.
abbrev all_shards_fail_words : List Text
all_shards_fail_words = codes "-E" ∷ codes "indices.breaker.request.limit=4000b" ∷ []

abbrev all_shards_fail_settings : Settings
all_shards_fail_settings = request_limit 4000

all_shards_fail_words_are_read : settings_of true all_shards_fail_words ≡ Ok all_shards_fail_settings
unfolding words_computing
all_shards_fail_words_are_read = refl

abbrev all_shards_fail_input : List ℕ
all_shards_fail_input = codes "{\"index\":\"i\",\"mappings\":{\"properties\":{\"b\":{\"type\":\"boolean\"},\"n\":{\"type\":\"long\"},\"t\":{\"type\":\"keyword\"}}},\"settings\":{\"number_of_shards\":2}}\n\n{\"index\":{\"routing\":\"1\"}}\n{\"t\":\"a\"}\n{\"index\":{\"routing\":\"1\"}}\n{\"t\":\"a\"}\n{\"index\":{\"routing\":\"1\"}}\n{\"t\":\"a\"}\n{\"index\":{\"routing\":\"1\"}}\n{\"t\":\"b\"}\n{\"index\":{\"routing\":\"1\"}}\n{\"t\":\"b\"}\n{\"index\":{\"routing\":\"0\"}}\n{\"t\":\"b\"}\n{\"index\":{\"routing\":\"0\"}}\n{\"t\":\"b\"}\n{\"index\":{\"routing\":\"0\"}}\n{\"t\":\"b\"}\n{\"index\":{\"routing\":\"0\"}}\n{\"t\":\"a\"}\n\n{}\n{\"aggs\":{\"t\":{\"terms\":{\"field\":\"t\",\"size\":1,\"shard_size\":1,\"show_term_doc_count_error\":true}}},\"allow_partial_search_results\":true}\n"

abbrev all_shards_fail_script : LoadedScript
all_shards_fail_script = script two_shards (all_created 9) 79 (searches (partial ∷ []))

all_shards_fail_is_read : Reads all_shards_fail_settings all_shards_fail_input all_shards_fail_script
unfolding computing reading_computing
all_shards_fail_is_read = refl

abbrev pub all_shards_fail_answer : Answered
all_shards_fail_answer = record { outcome = ended.Tripped (record { which = which.Request; wanted = 4608; limit = 4000 }); failures = failed 0 4608 4000 ∷ failed 1 4608 4000 ∷ [] }

all_shards_fail_is_answered : all_shards_fail_answer ≡ solo_answer all_shards_fail_settings two_shards (idle 79) partial
unfolding computing
all_shards_fail_is_answered = refl

abbrev all_shards_fail_round : Round
all_shards_fail_round = round all_shards_fail_settings partial all_shards_fail_answer

abbrev all_shards_fail_totals : Totals
all_shards_fail_totals = record { request = stats 0 0 4000 100 2; fielddata = stats 79 79 429496729 103 0; inflight = stats 0 262 1073741824 200 0; parent = stats 79 341 751619276 100 0 }

all_shards_fail_add_up : all_shards_fail_totals ≡ solo_totals all_shards_fail_settings two_shards 79 (all_shards_fail_round ∷ [])
unfolding computing
all_shards_fail_add_up = refl

all_shards_fail : Writes changed (settings_of true all_shards_fail_words) all_shards_fail_input (length all_shards_fail_input) 0 (codes "{\"errors\":false,\"items\":[{\"index\":{\"_id\":\"_auto_0\",\"_index\":\"i\",\"result\":\"created\",\"status\":201}},{\"index\":{\"_id\":\"_auto_1\",\"_index\":\"i\",\"result\":\"created\",\"status\":201}},{\"index\":{\"_id\":\"_auto_2\",\"_index\":\"i\",\"result\":\"created\",\"status\":201}},{\"index\":{\"_id\":\"_auto_3\",\"_index\":\"i\",\"result\":\"created\",\"status\":201}},{\"index\":{\"_id\":\"_auto_4\",\"_index\":\"i\",\"result\":\"created\",\"status\":201}},{\"index\":{\"_id\":\"_auto_5\",\"_index\":\"i\",\"result\":\"created\",\"status\":201}},{\"index\":{\"_id\":\"_auto_6\",\"_index\":\"i\",\"result\":\"created\",\"status\":201}},{\"index\":{\"_id\":\"_auto_7\",\"_index\":\"i\",\"result\":\"created\",\"status\":201}},{\"index\":{\"_id\":\"_auto_8\",\"_index\":\"i\",\"result\":\"created\",\"status\":201}}],\"took\":0}\n{\"error\":{\"bytes_limit\":4000,\"bytes_wanted\":4608,\"durability\":\"TRANSIENT\",\"failures\":[{\"reason\":{\"bytes_limit\":4000,\"bytes_wanted\":4608,\"durability\":\"TRANSIENT\",\"reason\":\"[request] Data too large, data for [search] would be [4608b], which is larger than the limit of [4000b]\",\"type\":\"circuit_breaking_exception\"},\"shard\":0},{\"reason\":{\"bytes_limit\":4000,\"bytes_wanted\":4608,\"durability\":\"TRANSIENT\",\"reason\":\"[request] Data too large, data for [search] would be [4608b], which is larger than the limit of [4000b]\",\"type\":\"circuit_breaking_exception\"},\"shard\":1}],\"reason\":\"[request] Data too large, data for [search] would be [4608b], which is larger than the limit of [4000b]\",\"type\":\"circuit_breaking_exception\"},\"status\":429}\n{\"breakers\":{\"fielddata\":{\"estimated_size_in_bytes\":79,\"granted_size_in_bytes\":79,\"limit_size_in_bytes\":429496729,\"overhead_percent\":103,\"tripped\":0},\"inflight_requests\":{\"estimated_size_in_bytes\":0,\"granted_size_in_bytes\":262,\"limit_size_in_bytes\":1073741824,\"overhead_percent\":200,\"tripped\":0},\"parent\":{\"estimated_size_in_bytes\":79,\"granted_size_in_bytes\":341,\"limit_size_in_bytes\":751619276,\"overhead_percent\":100,\"tripped\":0},\"request\":{\"estimated_size_in_bytes\":0,\"granted_size_in_bytes\":0,\"limit_size_in_bytes\":4000,\"overhead_percent\":100,\"tripped\":2}}}\n")
unfolding computing
all_shards_fail = by_words all_shards_fail_words_are_read (ends_well changed all_shards_fail_settings all_shards_fail_input (length all_shards_fail_input) all_shards_fail_script ((all_shards_fail_round ∷ []) ∷ []) (codes "{\"errors\":false,\"items\":[{\"index\":{\"_id\":\"_auto_0\",\"_index\":\"i\",\"result\":\"created\",\"status\":201}},{\"index\":{\"_id\":\"_auto_1\",\"_index\":\"i\",\"result\":\"created\",\"status\":201}},{\"index\":{\"_id\":\"_auto_2\",\"_index\":\"i\",\"result\":\"created\",\"status\":201}},{\"index\":{\"_id\":\"_auto_3\",\"_index\":\"i\",\"result\":\"created\",\"status\":201}},{\"index\":{\"_id\":\"_auto_4\",\"_index\":\"i\",\"result\":\"created\",\"status\":201}},{\"index\":{\"_id\":\"_auto_5\",\"_index\":\"i\",\"result\":\"created\",\"status\":201}},{\"index\":{\"_id\":\"_auto_6\",\"_index\":\"i\",\"result\":\"created\",\"status\":201}},{\"index\":{\"_id\":\"_auto_7\",\"_index\":\"i\",\"result\":\"created\",\"status\":201}},{\"index\":{\"_id\":\"_auto_8\",\"_index\":\"i\",\"result\":\"created\",\"status\":201}}],\"took\":0}\n{\"error\":{\"bytes_limit\":4000,\"bytes_wanted\":4608,\"durability\":\"TRANSIENT\",\"failures\":[{\"reason\":{\"bytes_limit\":4000,\"bytes_wanted\":4608,\"durability\":\"TRANSIENT\",\"reason\":\"[request] Data too large, data for [search] would be [4608b], which is larger than the limit of [4000b]\",\"type\":\"circuit_breaking_exception\"},\"shard\":0},{\"reason\":{\"bytes_limit\":4000,\"bytes_wanted\":4608,\"durability\":\"TRANSIENT\",\"reason\":\"[request] Data too large, data for [search] would be [4608b], which is larger than the limit of [4000b]\",\"type\":\"circuit_breaking_exception\"},\"shard\":1}],\"reason\":\"[request] Data too large, data for [search] would be [4608b], which is larger than the limit of [4000b]\",\"type\":\"circuit_breaking_exception\"},\"status\":429}\n{\"breakers\":{\"fielddata\":{\"estimated_size_in_bytes\":79,\"granted_size_in_bytes\":79,\"limit_size_in_bytes\":429496729,\"overhead_percent\":103,\"tripped\":0},\"inflight_requests\":{\"estimated_size_in_bytes\":0,\"granted_size_in_bytes\":262,\"limit_size_in_bytes\":1073741824,\"overhead_percent\":200,\"tripped\":0},\"parent\":{\"estimated_size_in_bytes\":79,\"granted_size_in_bytes\":341,\"limit_size_in_bytes\":751619276,\"overhead_percent\":100,\"tripped\":0},\"request\":{\"estimated_size_in_bytes\":0,\"granted_size_in_bytes\":0,\"limit_size_in_bytes\":4000,\"overhead_percent\":100,\"tripped\":2}}}\n") all_shards_fail_totals all_shards_fail_is_read refl (record { form = refl; each = ((refl, inl all_shards_fail_is_answered), tt) }, tt) all_shards_fail_add_up refl refl)
