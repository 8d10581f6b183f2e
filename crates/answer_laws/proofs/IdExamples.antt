-- Output of a script whose documents go to seven shards by their ids, with results merged two by two, computed by one worker.
use Rattle.std.specs.Prelude.{◌≡◌, refl, ℕ, false, List, [], ◌∷◌, map, length, None, Ok, codes}
use Rattle.std.proofs.Common.{inl}
use Rattle.agg_model.specs.declared.row.Row.{Row}
use Rattle.agg_model.specs.declared.query.Query.TheVariants.{All}
use Rattle.agg_model.specs.declared.aggregation.Kind.TheVariants.{Terms}
use Rattle.agg_model.specs.declared.aggregation.Search.{Search}
use Rattle.agg_model.specs.declared.breaker.Totals.{Totals}
use Rattle.agg_model.specs.declared.outcome.Answered.{Answered}
use Rattle.agg_model.specs.declared.outcome.Outcome.TheVariants as ended
use Rattle.agg_spec.specs.Index.{Index}
use Rattle.agg_spec.specs.Requests.{LoadedScript}
use Rattle.agg_spec.specs.Rounds.{Round}
use Rattle.agg_spec.specs.Solo.{idle, solo_answer}
use Rattle.agg_spec.specs.Statistics.{solo_totals}
use Rattle.agg_spec.proofs.Samples.{words, by_count, leaf, search_of, stats, default_limits, settings}
use Rattle.answer_laws.proofs.Scripts.{document, created, index_of, asked, searches, script, round}
use Rattle.answer_laws.proofs.Runs.{Writes, Reads, no_change, ends_well}
use Rattle.agg_reading.proofs.Computing.{computing as reading_computing}
use Rattle.agg_spec.proofs.Computing.{computing}

-- a document with one word
abbrev word : List ℕ → List ℕ → List ℕ × Row
word id t = document id (words (t ∷ []) ∷ [])

-- twenty documents by the hashes of their ids
abbrev seven_shards : Index
seven_shards = index_of ((word (codes "3") (codes "a") ∷ word (codes "8") (codes "a") ∷ word (codes "10") (codes "a") ∷ word (codes "19") (codes "b") ∷ []) ∷ (word (codes "1") (codes "a") ∷ word (codes "16") (codes "b") ∷ []) ∷ (word (codes "7") (codes "a") ∷ word (codes "13") (codes "b") ∷ word (codes "14") (codes "b") ∷ []) ∷ (word (codes "2") (codes "a") ∷ word (codes "5") (codes "a") ∷ word (codes "11") (codes "a") ∷ []) ∷ (word (codes "9") (codes "a") ∷ word (codes "17") (codes "b") ∷ word (codes "18") (codes "b") ∷ word (codes "20") (codes "b") ∷ []) ∷ (word (codes "6") (codes "a") ∷ word (codes "15") (codes "b") ∷ []) ∷ (word (codes "4") (codes "a") ∷ word (codes "12") (codes "a") ∷ []) ∷ [])

abbrev ids : List (List ℕ)
ids = codes "1" ∷ codes "2" ∷ codes "3" ∷ codes "4" ∷ codes "5" ∷ codes "6" ∷ codes "7" ∷ codes "8" ∷ codes "9" ∷ codes "10" ∷ codes "11" ∷ codes "12" ∷ codes "13" ∷ codes "14" ∷ codes "15" ∷ codes "16" ∷ codes "17" ∷ codes "18" ∷ codes "19" ∷ codes "20" ∷ []

abbrev all_terms : Search
all_terms = search_of All (leaf (codes "t") (Terms 2 10 25 1 by_count None [] None false) ∷ [])

abbrev seven_shards_by_id_input : List ℕ
seven_shards_by_id_input = codes "{\"index\":\"i\",\"mappings\":{\"properties\":{\"b\":{\"type\":\"boolean\"},\"n\":{\"type\":\"long\"},\"t\":{\"type\":\"keyword\"}}},\"settings\":{\"number_of_shards\":7}}\n\n{\"index\":{\"_id\":\"1\"}}\n{\"t\":\"a\"}\n{\"index\":{\"_id\":\"2\"}}\n{\"t\":\"a\"}\n{\"index\":{\"_id\":\"3\"}}\n{\"t\":\"a\"}\n{\"index\":{\"_id\":\"4\"}}\n{\"t\":\"a\"}\n{\"index\":{\"_id\":\"5\"}}\n{\"t\":\"a\"}\n{\"index\":{\"_id\":\"6\"}}\n{\"t\":\"a\"}\n{\"index\":{\"_id\":\"7\"}}\n{\"t\":\"a\"}\n{\"index\":{\"_id\":\"8\"}}\n{\"t\":\"a\"}\n{\"index\":{\"_id\":\"9\"}}\n{\"t\":\"a\"}\n{\"index\":{\"_id\":\"10\"}}\n{\"t\":\"a\"}\n{\"index\":{\"_id\":\"11\"}}\n{\"t\":\"a\"}\n{\"index\":{\"_id\":\"12\"}}\n{\"t\":\"a\"}\n{\"index\":{\"_id\":\"13\"}}\n{\"t\":\"b\"}\n{\"index\":{\"_id\":\"14\"}}\n{\"t\":\"b\"}\n{\"index\":{\"_id\":\"15\"}}\n{\"t\":\"b\"}\n{\"index\":{\"_id\":\"16\"}}\n{\"t\":\"b\"}\n{\"index\":{\"_id\":\"17\"}}\n{\"t\":\"b\"}\n{\"index\":{\"_id\":\"18\"}}\n{\"t\":\"b\"}\n{\"index\":{\"_id\":\"19\"}}\n{\"t\":\"b\"}\n{\"index\":{\"_id\":\"20\"}}\n{\"t\":\"b\"}\n\n{}\n{\"aggs\":{\"t\":{\"terms\":{\"field\":\"t\"}}}}\n"

abbrev seven_shards_by_id_script : LoadedScript
seven_shards_by_id_script = script seven_shards (map created ids) 178 (searches (asked 38 all_terms ∷ []))

seven_shards_by_id_is_read : Reads (record (settings default_limits) { batch = 2 }) seven_shards_by_id_input seven_shards_by_id_script
unfolding computing reading_computing
seven_shards_by_id_is_read = refl

abbrev seven_shards_by_id_answer : Answered
seven_shards_by_id_answer = record { outcome = ended.Response (codes "{\"_shards\":{\"failed\":0,\"skipped\":0,\"successful\":7,\"total\":7},\"aggregations\":{\"t\":{\"buckets\":[{\"doc_count\":12,\"key\":\"a\"},{\"doc_count\":8,\"key\":\"b\"}],\"doc_count_error_upper_bound\":0,\"sum_other_doc_count\":0}},\"hits\":{\"hits\":[],\"max_score\":null,\"total\":{\"relation\":\"eq\",\"value\":20}},\"status\":200,\"timed_out\":false,\"took\":0}"); failures = [] }

seven_shards_by_id_is_answered : seven_shards_by_id_answer ≡ solo_answer (record (settings default_limits) { batch = 2 }) seven_shards_by_id_script.index (idle seven_shards_by_id_script.columns) (asked 38 all_terms)
unfolding computing
seven_shards_by_id_is_answered = refl

abbrev seven_shards_by_id_rounds : List (List Round)
seven_shards_by_id_rounds = (round (record (settings default_limits) { batch = 2 }) (asked 38 all_terms) seven_shards_by_id_answer ∷ []) ∷ []

abbrev seven_shards_by_id_totals : Totals
seven_shards_by_id_totals = record { request = stats 0 41564 644245094 100 0; fielddata = stats 178 178 429496729 103 0; inflight = stats 0 76 1073741824 200 0; parent = stats 178 41818 751619276 100 0 }

seven_shards_by_id_add_up : seven_shards_by_id_totals ≡ solo_totals (record (settings default_limits) { batch = 2 }) seven_shards_by_id_script.index seven_shards_by_id_script.columns (round (record (settings default_limits) { batch = 2 }) (asked 38 all_terms) seven_shards_by_id_answer ∷ [])
unfolding computing
seven_shards_by_id_add_up = refl

seven_shards_by_id : Writes no_change (Ok (record (settings default_limits) { batch = 2 })) seven_shards_by_id_input (length seven_shards_by_id_input) 0 (codes "{\"errors\":false,\"items\":[{\"index\":{\"_id\":\"1\",\"_index\":\"i\",\"result\":\"created\",\"status\":201}},{\"index\":{\"_id\":\"2\",\"_index\":\"i\",\"result\":\"created\",\"status\":201}},{\"index\":{\"_id\":\"3\",\"_index\":\"i\",\"result\":\"created\",\"status\":201}},{\"index\":{\"_id\":\"4\",\"_index\":\"i\",\"result\":\"created\",\"status\":201}},{\"index\":{\"_id\":\"5\",\"_index\":\"i\",\"result\":\"created\",\"status\":201}},{\"index\":{\"_id\":\"6\",\"_index\":\"i\",\"result\":\"created\",\"status\":201}},{\"index\":{\"_id\":\"7\",\"_index\":\"i\",\"result\":\"created\",\"status\":201}},{\"index\":{\"_id\":\"8\",\"_index\":\"i\",\"result\":\"created\",\"status\":201}},{\"index\":{\"_id\":\"9\",\"_index\":\"i\",\"result\":\"created\",\"status\":201}},{\"index\":{\"_id\":\"10\",\"_index\":\"i\",\"result\":\"created\",\"status\":201}},{\"index\":{\"_id\":\"11\",\"_index\":\"i\",\"result\":\"created\",\"status\":201}},{\"index\":{\"_id\":\"12\",\"_index\":\"i\",\"result\":\"created\",\"status\":201}},{\"index\":{\"_id\":\"13\",\"_index\":\"i\",\"result\":\"created\",\"status\":201}},{\"index\":{\"_id\":\"14\",\"_index\":\"i\",\"result\":\"created\",\"status\":201}},{\"index\":{\"_id\":\"15\",\"_index\":\"i\",\"result\":\"created\",\"status\":201}},{\"index\":{\"_id\":\"16\",\"_index\":\"i\",\"result\":\"created\",\"status\":201}},{\"index\":{\"_id\":\"17\",\"_index\":\"i\",\"result\":\"created\",\"status\":201}},{\"index\":{\"_id\":\"18\",\"_index\":\"i\",\"result\":\"created\",\"status\":201}},{\"index\":{\"_id\":\"19\",\"_index\":\"i\",\"result\":\"created\",\"status\":201}},{\"index\":{\"_id\":\"20\",\"_index\":\"i\",\"result\":\"created\",\"status\":201}}],\"took\":0}\n{\"_shards\":{\"failed\":0,\"skipped\":0,\"successful\":7,\"total\":7},\"aggregations\":{\"t\":{\"buckets\":[{\"doc_count\":12,\"key\":\"a\"},{\"doc_count\":8,\"key\":\"b\"}],\"doc_count_error_upper_bound\":0,\"sum_other_doc_count\":0}},\"hits\":{\"hits\":[],\"max_score\":null,\"total\":{\"relation\":\"eq\",\"value\":20}},\"status\":200,\"timed_out\":false,\"took\":0}\n{\"breakers\":{\"fielddata\":{\"estimated_size_in_bytes\":178,\"granted_size_in_bytes\":178,\"limit_size_in_bytes\":429496729,\"overhead_percent\":103,\"tripped\":0},\"inflight_requests\":{\"estimated_size_in_bytes\":0,\"granted_size_in_bytes\":76,\"limit_size_in_bytes\":1073741824,\"overhead_percent\":200,\"tripped\":0},\"parent\":{\"estimated_size_in_bytes\":178,\"granted_size_in_bytes\":41818,\"limit_size_in_bytes\":751619276,\"overhead_percent\":100,\"tripped\":0},\"request\":{\"estimated_size_in_bytes\":0,\"granted_size_in_bytes\":41564,\"limit_size_in_bytes\":644245094,\"overhead_percent\":100,\"tripped\":0}}}\n")
unfolding computing
seven_shards_by_id = ends_well no_change (record (settings default_limits) { batch = 2 }) seven_shards_by_id_input (length seven_shards_by_id_input) seven_shards_by_id_script seven_shards_by_id_rounds (codes "{\"errors\":false,\"items\":[{\"index\":{\"_id\":\"1\",\"_index\":\"i\",\"result\":\"created\",\"status\":201}},{\"index\":{\"_id\":\"2\",\"_index\":\"i\",\"result\":\"created\",\"status\":201}},{\"index\":{\"_id\":\"3\",\"_index\":\"i\",\"result\":\"created\",\"status\":201}},{\"index\":{\"_id\":\"4\",\"_index\":\"i\",\"result\":\"created\",\"status\":201}},{\"index\":{\"_id\":\"5\",\"_index\":\"i\",\"result\":\"created\",\"status\":201}},{\"index\":{\"_id\":\"6\",\"_index\":\"i\",\"result\":\"created\",\"status\":201}},{\"index\":{\"_id\":\"7\",\"_index\":\"i\",\"result\":\"created\",\"status\":201}},{\"index\":{\"_id\":\"8\",\"_index\":\"i\",\"result\":\"created\",\"status\":201}},{\"index\":{\"_id\":\"9\",\"_index\":\"i\",\"result\":\"created\",\"status\":201}},{\"index\":{\"_id\":\"10\",\"_index\":\"i\",\"result\":\"created\",\"status\":201}},{\"index\":{\"_id\":\"11\",\"_index\":\"i\",\"result\":\"created\",\"status\":201}},{\"index\":{\"_id\":\"12\",\"_index\":\"i\",\"result\":\"created\",\"status\":201}},{\"index\":{\"_id\":\"13\",\"_index\":\"i\",\"result\":\"created\",\"status\":201}},{\"index\":{\"_id\":\"14\",\"_index\":\"i\",\"result\":\"created\",\"status\":201}},{\"index\":{\"_id\":\"15\",\"_index\":\"i\",\"result\":\"created\",\"status\":201}},{\"index\":{\"_id\":\"16\",\"_index\":\"i\",\"result\":\"created\",\"status\":201}},{\"index\":{\"_id\":\"17\",\"_index\":\"i\",\"result\":\"created\",\"status\":201}},{\"index\":{\"_id\":\"18\",\"_index\":\"i\",\"result\":\"created\",\"status\":201}},{\"index\":{\"_id\":\"19\",\"_index\":\"i\",\"result\":\"created\",\"status\":201}},{\"index\":{\"_id\":\"20\",\"_index\":\"i\",\"result\":\"created\",\"status\":201}}],\"took\":0}\n{\"_shards\":{\"failed\":0,\"skipped\":0,\"successful\":7,\"total\":7},\"aggregations\":{\"t\":{\"buckets\":[{\"doc_count\":12,\"key\":\"a\"},{\"doc_count\":8,\"key\":\"b\"}],\"doc_count_error_upper_bound\":0,\"sum_other_doc_count\":0}},\"hits\":{\"hits\":[],\"max_score\":null,\"total\":{\"relation\":\"eq\",\"value\":20}},\"status\":200,\"timed_out\":false,\"took\":0}\n{\"breakers\":{\"fielddata\":{\"estimated_size_in_bytes\":178,\"granted_size_in_bytes\":178,\"limit_size_in_bytes\":429496729,\"overhead_percent\":103,\"tripped\":0},\"inflight_requests\":{\"estimated_size_in_bytes\":0,\"granted_size_in_bytes\":76,\"limit_size_in_bytes\":1073741824,\"overhead_percent\":200,\"tripped\":0},\"parent\":{\"estimated_size_in_bytes\":178,\"granted_size_in_bytes\":41818,\"limit_size_in_bytes\":751619276,\"overhead_percent\":100,\"tripped\":0},\"request\":{\"estimated_size_in_bytes\":0,\"granted_size_in_bytes\":41564,\"limit_size_in_bytes\":644245094,\"overhead_percent\":100,\"tripped\":0}}}\n") seven_shards_by_id_totals seven_shards_by_id_is_read refl (record { form = refl; each = ((refl, inl seven_shards_by_id_is_answered), tt) }, tt) seven_shards_by_id_add_up refl refl
