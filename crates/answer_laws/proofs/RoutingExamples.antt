-- Output of a script whose documents go to two shards by their routing, computed from bytes to bytes by one worker.
use Rattle.std.specs.Prelude.{◌≡◌, refl, ℕ, true, List, [], ◌∷◌, length, None, Ok, codes}
use Rattle.std.proofs.Common.{inl}
use Rattle.agg_model.specs.declared.query.Query.TheVariants.{All}
use Rattle.agg_model.specs.declared.aggregation.Kind.TheVariants.{Terms}
use Rattle.agg_model.specs.declared.aggregation.Search.{Search}
use Rattle.agg_model.specs.declared.breaker.Totals.{Totals}
use Rattle.agg_model.specs.declared.outcome.Answered.{Answered}
use Rattle.agg_model.specs.declared.outcome.Outcome.TheVariants as ended
use Rattle.agg_spec.specs.Index.{Index}
use Rattle.agg_spec.specs.Requests.{LoadedScript}
use Rattle.agg_spec.specs.Rounds.{Round}
use Rattle.agg_spec.specs.Solo.{idle, solo_answer}
use Rattle.agg_spec.specs.Statistics.{solo_totals}
use Rattle.agg_spec.proofs.Samples.{words, by_count, leaf, search_of, stats, default_limits, settings}
use Rattle.answer_laws.proofs.Scripts.{document, automatic, all_created, index_of, asked, searches, script, round}
use Rattle.answer_laws.proofs.Runs.{Writes, Reads, no_change, ends_well}
use Rattle.agg_reading.proofs.Computing.{computing as reading_computing}
use Rattle.agg_spec.proofs.Computing.{computing}

-- five documents in the first shard, and four in the second
abbrev pub two_shards : Index
two_shards = index_of ((document (automatic 0) (words (codes "a" ∷ []) ∷ []) ∷ document (automatic 1) (words (codes "a" ∷ []) ∷ []) ∷ document (automatic 2) (words (codes "a" ∷ []) ∷ []) ∷ document (automatic 3) (words (codes "b" ∷ []) ∷ []) ∷ document (automatic 4) (words (codes "b" ∷ []) ∷ []) ∷ []) ∷ (document (automatic 5) (words (codes "b" ∷ []) ∷ []) ∷ document (automatic 6) (words (codes "b" ∷ []) ∷ []) ∷ document (automatic 7) (words (codes "b" ∷ []) ∷ []) ∷ document (automatic 8) (words (codes "a" ∷ []) ∷ []) ∷ []) ∷ [])

-- the first term of each shard, with its error
abbrev pub one_term : Search
one_term = search_of All (leaf (codes "t") (Terms 2 1 1 1 by_count None [] None true) ∷ [])

abbrev two_shards_by_routing_input : List ℕ
two_shards_by_routing_input = codes "{\"index\":\"i\",\"mappings\":{\"properties\":{\"b\":{\"type\":\"boolean\"},\"n\":{\"type\":\"long\"},\"t\":{\"type\":\"keyword\"}}},\"settings\":{\"number_of_shards\":2}}\n\n{\"index\":{\"routing\":\"1\"}}\n{\"t\":\"a\"}\n{\"index\":{\"routing\":\"1\"}}\n{\"t\":\"a\"}\n{\"index\":{\"routing\":\"1\"}}\n{\"t\":\"a\"}\n{\"index\":{\"routing\":\"1\"}}\n{\"t\":\"b\"}\n{\"index\":{\"routing\":\"1\"}}\n{\"t\":\"b\"}\n{\"index\":{\"routing\":\"0\"}}\n{\"t\":\"b\"}\n{\"index\":{\"routing\":\"0\"}}\n{\"t\":\"b\"}\n{\"index\":{\"routing\":\"0\"}}\n{\"t\":\"b\"}\n{\"index\":{\"routing\":\"0\"}}\n{\"t\":\"a\"}\n\n{}\n{\"aggs\":{\"t\":{\"terms\":{\"field\":\"t\",\"size\":1,\"shard_size\":1,\"show_term_doc_count_error\":true}}}}\n"

abbrev two_shards_by_routing_script : LoadedScript
two_shards_by_routing_script = script two_shards (all_created 9) 79 (searches (asked 95 one_term ∷ []))

two_shards_by_routing_is_read : Reads (settings default_limits) two_shards_by_routing_input two_shards_by_routing_script
unfolding computing reading_computing
two_shards_by_routing_is_read = refl

abbrev two_shards_by_routing_answer : Answered
two_shards_by_routing_answer = record { outcome = ended.Response (codes "{\"_shards\":{\"failed\":0,\"skipped\":0,\"successful\":2,\"total\":2},\"aggregations\":{\"t\":{\"buckets\":[{\"doc_count\":3,\"doc_count_error_upper_bound\":3,\"key\":\"a\"}],\"doc_count_error_upper_bound\":6,\"sum_other_doc_count\":6}},\"hits\":{\"hits\":[],\"max_score\":null,\"total\":{\"relation\":\"eq\",\"value\":9}},\"status\":200,\"timed_out\":false,\"took\":0}"); failures = [] }

two_shards_by_routing_is_answered : two_shards_by_routing_answer ≡ solo_answer (settings default_limits) two_shards_by_routing_script.index (idle two_shards_by_routing_script.columns) (asked 95 one_term)
unfolding computing
two_shards_by_routing_is_answered = refl

abbrev two_shards_by_routing_rounds : List (List Round)
two_shards_by_routing_rounds = (round (settings default_limits) (asked 95 one_term) two_shards_by_routing_answer ∷ []) ∷ []

abbrev two_shards_by_routing_totals : Totals
two_shards_by_routing_totals = record { request = stats 0 11336 644245094 100 0; fielddata = stats 79 79 429496729 103 0; inflight = stats 0 190 1073741824 200 0; parent = stats 79 11605 751619276 100 0 }

two_shards_by_routing_add_up : two_shards_by_routing_totals ≡ solo_totals (settings default_limits) two_shards_by_routing_script.index two_shards_by_routing_script.columns (round (settings default_limits) (asked 95 one_term) two_shards_by_routing_answer ∷ [])
unfolding computing
two_shards_by_routing_add_up = refl

two_shards_by_routing : Writes no_change (Ok (settings default_limits)) two_shards_by_routing_input (length two_shards_by_routing_input) 0 (codes "{\"errors\":false,\"items\":[{\"index\":{\"_id\":\"_auto_0\",\"_index\":\"i\",\"result\":\"created\",\"status\":201}},{\"index\":{\"_id\":\"_auto_1\",\"_index\":\"i\",\"result\":\"created\",\"status\":201}},{\"index\":{\"_id\":\"_auto_2\",\"_index\":\"i\",\"result\":\"created\",\"status\":201}},{\"index\":{\"_id\":\"_auto_3\",\"_index\":\"i\",\"result\":\"created\",\"status\":201}},{\"index\":{\"_id\":\"_auto_4\",\"_index\":\"i\",\"result\":\"created\",\"status\":201}},{\"index\":{\"_id\":\"_auto_5\",\"_index\":\"i\",\"result\":\"created\",\"status\":201}},{\"index\":{\"_id\":\"_auto_6\",\"_index\":\"i\",\"result\":\"created\",\"status\":201}},{\"index\":{\"_id\":\"_auto_7\",\"_index\":\"i\",\"result\":\"created\",\"status\":201}},{\"index\":{\"_id\":\"_auto_8\",\"_index\":\"i\",\"result\":\"created\",\"status\":201}}],\"took\":0}\n{\"_shards\":{\"failed\":0,\"skipped\":0,\"successful\":2,\"total\":2},\"aggregations\":{\"t\":{\"buckets\":[{\"doc_count\":3,\"doc_count_error_upper_bound\":3,\"key\":\"a\"}],\"doc_count_error_upper_bound\":6,\"sum_other_doc_count\":6}},\"hits\":{\"hits\":[],\"max_score\":null,\"total\":{\"relation\":\"eq\",\"value\":9}},\"status\":200,\"timed_out\":false,\"took\":0}\n{\"breakers\":{\"fielddata\":{\"estimated_size_in_bytes\":79,\"granted_size_in_bytes\":79,\"limit_size_in_bytes\":429496729,\"overhead_percent\":103,\"tripped\":0},\"inflight_requests\":{\"estimated_size_in_bytes\":0,\"granted_size_in_bytes\":190,\"limit_size_in_bytes\":1073741824,\"overhead_percent\":200,\"tripped\":0},\"parent\":{\"estimated_size_in_bytes\":79,\"granted_size_in_bytes\":11605,\"limit_size_in_bytes\":751619276,\"overhead_percent\":100,\"tripped\":0},\"request\":{\"estimated_size_in_bytes\":0,\"granted_size_in_bytes\":11336,\"limit_size_in_bytes\":644245094,\"overhead_percent\":100,\"tripped\":0}}}\n")
unfolding computing
two_shards_by_routing = ends_well no_change (settings default_limits) two_shards_by_routing_input (length two_shards_by_routing_input) two_shards_by_routing_script two_shards_by_routing_rounds (codes "{\"errors\":false,\"items\":[{\"index\":{\"_id\":\"_auto_0\",\"_index\":\"i\",\"result\":\"created\",\"status\":201}},{\"index\":{\"_id\":\"_auto_1\",\"_index\":\"i\",\"result\":\"created\",\"status\":201}},{\"index\":{\"_id\":\"_auto_2\",\"_index\":\"i\",\"result\":\"created\",\"status\":201}},{\"index\":{\"_id\":\"_auto_3\",\"_index\":\"i\",\"result\":\"created\",\"status\":201}},{\"index\":{\"_id\":\"_auto_4\",\"_index\":\"i\",\"result\":\"created\",\"status\":201}},{\"index\":{\"_id\":\"_auto_5\",\"_index\":\"i\",\"result\":\"created\",\"status\":201}},{\"index\":{\"_id\":\"_auto_6\",\"_index\":\"i\",\"result\":\"created\",\"status\":201}},{\"index\":{\"_id\":\"_auto_7\",\"_index\":\"i\",\"result\":\"created\",\"status\":201}},{\"index\":{\"_id\":\"_auto_8\",\"_index\":\"i\",\"result\":\"created\",\"status\":201}}],\"took\":0}\n{\"_shards\":{\"failed\":0,\"skipped\":0,\"successful\":2,\"total\":2},\"aggregations\":{\"t\":{\"buckets\":[{\"doc_count\":3,\"doc_count_error_upper_bound\":3,\"key\":\"a\"}],\"doc_count_error_upper_bound\":6,\"sum_other_doc_count\":6}},\"hits\":{\"hits\":[],\"max_score\":null,\"total\":{\"relation\":\"eq\",\"value\":9}},\"status\":200,\"timed_out\":false,\"took\":0}\n{\"breakers\":{\"fielddata\":{\"estimated_size_in_bytes\":79,\"granted_size_in_bytes\":79,\"limit_size_in_bytes\":429496729,\"overhead_percent\":103,\"tripped\":0},\"inflight_requests\":{\"estimated_size_in_bytes\":0,\"granted_size_in_bytes\":190,\"limit_size_in_bytes\":1073741824,\"overhead_percent\":200,\"tripped\":0},\"parent\":{\"estimated_size_in_bytes\":79,\"granted_size_in_bytes\":11605,\"limit_size_in_bytes\":751619276,\"overhead_percent\":100,\"tripped\":0},\"request\":{\"estimated_size_in_bytes\":0,\"granted_size_in_bytes\":11336,\"limit_size_in_bytes\":644245094,\"overhead_percent\":100,\"tripped\":0}}}\n") two_shards_by_routing_totals two_shards_by_routing_is_read refl (record { form = refl; each = ((refl, inl two_shards_by_routing_is_answered), tt) }, tt) two_shards_by_routing_add_up refl refl
