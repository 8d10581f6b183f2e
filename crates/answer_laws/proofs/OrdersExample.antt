-- Output of a script of twenty orders in three shards, computed by one worker.
use Rattle.std.specs.Prelude.{◌≡◌, refl, ℕ, ℤ, pos, false, List, [], ◌∷◌, map, length, None, Ok, codes}
use Rattle.std.proofs.Common.{inl}
use Rattle.agg_model.specs.declared.row.Row.{Row}
use Rattle.agg_model.specs.declared.row.Scalar.TheVariants as scalar
use Rattle.agg_model.specs.declared.mapping.FieldKind.TheVariants as type
use Rattle.agg_evaluation.specs.Keys.{no_bounds}
use Rattle.agg_evaluation.specs.Rows.{shard_rows}
use Rattle.agg_model.specs.declared.query.Query.TheVariants.{All}
use Rattle.agg_model.specs.declared.aggregation.Kind.TheVariants.{Histogram, Sum, Terms}
use Rattle.agg_model.specs.declared.aggregation.Search.{Search}
use Rattle.agg_model.specs.declared.breaker.Totals.{Totals}
use Rattle.agg_model.specs.declared.outcome.Answered.{Answered}
use Rattle.agg_model.specs.declared.outcome.Outcome.TheVariants as ended
use Rattle.agg_spec.specs.Index.{Index}
use Rattle.agg_spec.specs.Requests.{LoadedScript}
use Rattle.agg_spec.specs.Rounds.{Round}
use Rattle.agg_spec.specs.Solo.{idle, solo_answer}
use Rattle.agg_spec.specs.Statistics.{solo_totals}
use Rattle.agg_spec.proofs.Samples.{mapping, field, by_count, by_key, agg, leaf, search_of, stats, default_limits, settings}
use Rattle.answer_laws.proofs.Scripts.{document, automatic, all_created, asked, searches, script, round}
use Rattle.answer_laws.proofs.Runs.{Writes, Reads, no_change, ends_well}
use Rattle.agg_reading.proofs.Computing.{computing as reading_computing}
use Rattle.agg_spec.proofs.Computing.{computing}

-- an order: its price, a field without values, and its region
abbrev order : ℕ → ℤ → List ℕ → List ℕ × Row
order n price region = document (automatic n) (record { field = 1; values = scalar.Whole price ∷ [] } ∷ record { field = 2; values = scalar.Word region ∷ [] } ∷ [])

abbrev orders : Index
orders = record {
  name = codes "orders";
  mapping = mapping (field (codes "coupon") type.Keyword 0 ∷ field (codes "price") type.Long 0 ∷ field (codes "region") type.Keyword 0 ∷ []) [];
  shards = map shard_rows ((order 1 (pos 10) (codes "south") ∷ order 2 (pos 20) (codes "north") ∷ order 4 (pos 40) (codes "north") ∷ order 8 (pos 80) (codes "north") ∷ order 13 (pos 130) (codes "south") ∷ order 14 (pos 140) (codes "north") ∷ order 19 (pos 190) (codes "south") ∷ []) ∷ (order 3 (pos 30) (codes "south") ∷ order 5 (pos 50) (codes "south") ∷ order 6 (pos 60) (codes "north") ∷ order 9 (pos 90) (codes "south") ∷ order 11 (pos 110) (codes "south") ∷ order 12 (pos 120) (codes "north") ∷ order 17 (pos 170) (codes "south") ∷ order 18 (pos 180) (codes "north") ∷ []) ∷ (order 0 (pos 0) (codes "north") ∷ order 7 (pos 70) (codes "south") ∷ order 10 (pos 100) (codes "north") ∷ order 15 (pos 150) (codes "south") ∷ order 16 (pos 160) (codes "north") ∷ []) ∷ []);
}

-- histograms and sums of prices by region
abbrev prices_by_region : Search
prices_by_region = search_of All (agg (codes "by") (Terms 2 10 25 1 by_count None [] None false) (leaf (codes "h") (Histogram 1 100 0 0 no_bounds no_bounds false by_key None) ∷ leaf (codes "s") (Sum 1 None) ∷ []) ∷ [])

abbrev usual_orders_input : List ℕ
usual_orders_input = codes "{\"index\":\"orders\",\"mappings\":{\"properties\":{\"coupon\":{\"type\":\"keyword\"},\"price\":{\"type\":\"long\"},\"region\":{\"type\":\"keyword\"}}},\"settings\":{\"index\":{\"number_of_shards\":\"3\",\"number_of_replicas\":\"1\"}}}\n\n{\"index\":{\"_index\":\"orders\"}}\n{\"region\":\"north\",\"price\":0,\"coupon\":null,\"note\":\"n\"}\n{\"index\":{\"_index\":\"orders\"}}\n{\"region\":\"south\",\"price\":10,\"coupon\":null,\"note\":\"n\"}\n{\"index\":{\"_index\":\"orders\"}}\n{\"region\":\"north\",\"price\":20,\"coupon\":null,\"note\":\"n\"}\n{\"index\":{\"_index\":\"orders\"}}\n{\"region\":\"south\",\"price\":30,\"coupon\":null,\"note\":\"n\"}\n{\"index\":{\"_index\":\"orders\"}}\n{\"region\":\"north\",\"price\":40,\"coupon\":null,\"note\":\"n\"}\n{\"index\":{\"_index\":\"orders\"}}\n{\"region\":\"south\",\"price\":50,\"coupon\":null,\"note\":\"n\"}\n{\"index\":{\"_index\":\"orders\"}}\n{\"region\":\"north\",\"price\":60,\"coupon\":null,\"note\":\"n\"}\n{\"index\":{\"_index\":\"orders\"}}\n{\"region\":\"south\",\"price\":70,\"coupon\":null,\"note\":\"n\"}\n{\"index\":{\"_index\":\"orders\"}}\n{\"region\":\"north\",\"price\":80,\"coupon\":null,\"note\":\"n\"}\n{\"index\":{\"_index\":\"orders\"}}\n{\"region\":\"south\",\"price\":90,\"coupon\":null,\"note\":\"n\"}\n{\"index\":{\"_index\":\"orders\"}}\n{\"region\":\"north\",\"price\":100,\"coupon\":null,\"note\":\"n\"}\n{\"index\":{\"_index\":\"orders\"}}\n{\"region\":\"south\",\"price\":110,\"coupon\":null,\"note\":\"n\"}\n{\"index\":{\"_index\":\"orders\"}}\n{\"region\":\"north\",\"price\":120,\"coupon\":null,\"note\":\"n\"}\n{\"index\":{\"_index\":\"orders\"}}\n{\"region\":\"south\",\"price\":130,\"coupon\":null,\"note\":\"n\"}\n{\"index\":{\"_index\":\"orders\"}}\n{\"region\":\"north\",\"price\":140,\"coupon\":null,\"note\":\"n\"}\n{\"index\":{\"_index\":\"orders\"}}\n{\"region\":\"south\",\"price\":150,\"coupon\":null,\"note\":\"n\"}\n{\"index\":{\"_index\":\"orders\"}}\n{\"region\":\"north\",\"price\":160,\"coupon\":null,\"note\":\"n\"}\n{\"index\":{\"_index\":\"orders\"}}\n{\"region\":\"south\",\"price\":170,\"coupon\":null,\"note\":\"n\"}\n{\"index\":{\"_index\":\"orders\"}}\n{\"region\":\"north\",\"price\":180,\"coupon\":null,\"note\":\"n\"}\n{\"index\":{\"_index\":\"orders\"}}\n{\"region\":\"south\",\"price\":190,\"coupon\":null,\"note\":\"n\"}\n\n{}\n{\"size\":0,\"aggs\":{\"by\":{\"terms\":{\"field\":\"region\"},\"aggs\":{\"h\":{\"histogram\":{\"field\":\"price\",\"interval\":100}},\"s\":{\"sum\":{\"field\":\"price\"}}}}}}\n"

abbrev usual_orders_script : LoadedScript
usual_orders_script = script orders (all_created 20) 361 (searches (asked 143 prices_by_region ∷ []))

usual_orders_is_read : Reads (settings default_limits) usual_orders_input usual_orders_script
unfolding computing reading_computing
usual_orders_is_read = refl

abbrev usual_orders_answer : Answered
usual_orders_answer = record { outcome = ended.Response (codes "{\"_shards\":{\"failed\":0,\"skipped\":0,\"successful\":3,\"total\":3},\"aggregations\":{\"by\":{\"buckets\":[{\"doc_count\":10,\"h\":{\"buckets\":[{\"doc_count\":5,\"key\":0},{\"doc_count\":5,\"key\":100}]},\"key\":\"north\",\"s\":{\"value\":900}},{\"doc_count\":10,\"h\":{\"buckets\":[{\"doc_count\":5,\"key\":0},{\"doc_count\":5,\"key\":100}]},\"key\":\"south\",\"s\":{\"value\":1000}}],\"doc_count_error_upper_bound\":0,\"sum_other_doc_count\":0}},\"hits\":{\"hits\":[],\"max_score\":null,\"total\":{\"relation\":\"eq\",\"value\":20}},\"status\":200,\"timed_out\":false,\"took\":0}"); failures = [] }

usual_orders_is_answered : usual_orders_answer ≡ solo_answer (settings default_limits) usual_orders_script.index (idle usual_orders_script.columns) (asked 143 prices_by_region)
unfolding computing
usual_orders_is_answered = refl

abbrev usual_orders_rounds : List (List Round)
usual_orders_rounds = (round (settings default_limits) (asked 143 prices_by_region) usual_orders_answer ∷ []) ∷ []

abbrev usual_orders_totals : Totals
usual_orders_totals = record { request = stats 0 33009 644245094 100 0; fielddata = stats 361 361 429496729 103 0; inflight = stats 0 286 1073741824 200 0; parent = stats 361 33656 751619276 100 0 }

usual_orders_add_up : usual_orders_totals ≡ solo_totals (settings default_limits) usual_orders_script.index usual_orders_script.columns (round (settings default_limits) (asked 143 prices_by_region) usual_orders_answer ∷ [])
unfolding computing
usual_orders_add_up = refl

usual_orders : Writes no_change (Ok (settings default_limits)) usual_orders_input (length usual_orders_input) 0 (codes "{\"errors\":false,\"items\":[{\"index\":{\"_id\":\"_auto_0\",\"_index\":\"orders\",\"result\":\"created\",\"status\":201}},{\"index\":{\"_id\":\"_auto_1\",\"_index\":\"orders\",\"result\":\"created\",\"status\":201}},{\"index\":{\"_id\":\"_auto_2\",\"_index\":\"orders\",\"result\":\"created\",\"status\":201}},{\"index\":{\"_id\":\"_auto_3\",\"_index\":\"orders\",\"result\":\"created\",\"status\":201}},{\"index\":{\"_id\":\"_auto_4\",\"_index\":\"orders\",\"result\":\"created\",\"status\":201}},{\"index\":{\"_id\":\"_auto_5\",\"_index\":\"orders\",\"result\":\"created\",\"status\":201}},{\"index\":{\"_id\":\"_auto_6\",\"_index\":\"orders\",\"result\":\"created\",\"status\":201}},{\"index\":{\"_id\":\"_auto_7\",\"_index\":\"orders\",\"result\":\"created\",\"status\":201}},{\"index\":{\"_id\":\"_auto_8\",\"_index\":\"orders\",\"result\":\"created\",\"status\":201}},{\"index\":{\"_id\":\"_auto_9\",\"_index\":\"orders\",\"result\":\"created\",\"status\":201}},{\"index\":{\"_id\":\"_auto_10\",\"_index\":\"orders\",\"result\":\"created\",\"status\":201}},{\"index\":{\"_id\":\"_auto_11\",\"_index\":\"orders\",\"result\":\"created\",\"status\":201}},{\"index\":{\"_id\":\"_auto_12\",\"_index\":\"orders\",\"result\":\"created\",\"status\":201}},{\"index\":{\"_id\":\"_auto_13\",\"_index\":\"orders\",\"result\":\"created\",\"status\":201}},{\"index\":{\"_id\":\"_auto_14\",\"_index\":\"orders\",\"result\":\"created\",\"status\":201}},{\"index\":{\"_id\":\"_auto_15\",\"_index\":\"orders\",\"result\":\"created\",\"status\":201}},{\"index\":{\"_id\":\"_auto_16\",\"_index\":\"orders\",\"result\":\"created\",\"status\":201}},{\"index\":{\"_id\":\"_auto_17\",\"_index\":\"orders\",\"result\":\"created\",\"status\":201}},{\"index\":{\"_id\":\"_auto_18\",\"_index\":\"orders\",\"result\":\"created\",\"status\":201}},{\"index\":{\"_id\":\"_auto_19\",\"_index\":\"orders\",\"result\":\"created\",\"status\":201}}],\"took\":0}\n{\"_shards\":{\"failed\":0,\"skipped\":0,\"successful\":3,\"total\":3},\"aggregations\":{\"by\":{\"buckets\":[{\"doc_count\":10,\"h\":{\"buckets\":[{\"doc_count\":5,\"key\":0},{\"doc_count\":5,\"key\":100}]},\"key\":\"north\",\"s\":{\"value\":900}},{\"doc_count\":10,\"h\":{\"buckets\":[{\"doc_count\":5,\"key\":0},{\"doc_count\":5,\"key\":100}]},\"key\":\"south\",\"s\":{\"value\":1000}}],\"doc_count_error_upper_bound\":0,\"sum_other_doc_count\":0}},\"hits\":{\"hits\":[],\"max_score\":null,\"total\":{\"relation\":\"eq\",\"value\":20}},\"status\":200,\"timed_out\":false,\"took\":0}\n{\"breakers\":{\"fielddata\":{\"estimated_size_in_bytes\":361,\"granted_size_in_bytes\":361,\"limit_size_in_bytes\":429496729,\"overhead_percent\":103,\"tripped\":0},\"inflight_requests\":{\"estimated_size_in_bytes\":0,\"granted_size_in_bytes\":286,\"limit_size_in_bytes\":1073741824,\"overhead_percent\":200,\"tripped\":0},\"parent\":{\"estimated_size_in_bytes\":361,\"granted_size_in_bytes\":33656,\"limit_size_in_bytes\":751619276,\"overhead_percent\":100,\"tripped\":0},\"request\":{\"estimated_size_in_bytes\":0,\"granted_size_in_bytes\":33009,\"limit_size_in_bytes\":644245094,\"overhead_percent\":100,\"tripped\":0}}}\n")
unfolding computing
usual_orders = ends_well no_change (settings default_limits) usual_orders_input (length usual_orders_input) usual_orders_script usual_orders_rounds (codes "{\"errors\":false,\"items\":[{\"index\":{\"_id\":\"_auto_0\",\"_index\":\"orders\",\"result\":\"created\",\"status\":201}},{\"index\":{\"_id\":\"_auto_1\",\"_index\":\"orders\",\"result\":\"created\",\"status\":201}},{\"index\":{\"_id\":\"_auto_2\",\"_index\":\"orders\",\"result\":\"created\",\"status\":201}},{\"index\":{\"_id\":\"_auto_3\",\"_index\":\"orders\",\"result\":\"created\",\"status\":201}},{\"index\":{\"_id\":\"_auto_4\",\"_index\":\"orders\",\"result\":\"created\",\"status\":201}},{\"index\":{\"_id\":\"_auto_5\",\"_index\":\"orders\",\"result\":\"created\",\"status\":201}},{\"index\":{\"_id\":\"_auto_6\",\"_index\":\"orders\",\"result\":\"created\",\"status\":201}},{\"index\":{\"_id\":\"_auto_7\",\"_index\":\"orders\",\"result\":\"created\",\"status\":201}},{\"index\":{\"_id\":\"_auto_8\",\"_index\":\"orders\",\"result\":\"created\",\"status\":201}},{\"index\":{\"_id\":\"_auto_9\",\"_index\":\"orders\",\"result\":\"created\",\"status\":201}},{\"index\":{\"_id\":\"_auto_10\",\"_index\":\"orders\",\"result\":\"created\",\"status\":201}},{\"index\":{\"_id\":\"_auto_11\",\"_index\":\"orders\",\"result\":\"created\",\"status\":201}},{\"index\":{\"_id\":\"_auto_12\",\"_index\":\"orders\",\"result\":\"created\",\"status\":201}},{\"index\":{\"_id\":\"_auto_13\",\"_index\":\"orders\",\"result\":\"created\",\"status\":201}},{\"index\":{\"_id\":\"_auto_14\",\"_index\":\"orders\",\"result\":\"created\",\"status\":201}},{\"index\":{\"_id\":\"_auto_15\",\"_index\":\"orders\",\"result\":\"created\",\"status\":201}},{\"index\":{\"_id\":\"_auto_16\",\"_index\":\"orders\",\"result\":\"created\",\"status\":201}},{\"index\":{\"_id\":\"_auto_17\",\"_index\":\"orders\",\"result\":\"created\",\"status\":201}},{\"index\":{\"_id\":\"_auto_18\",\"_index\":\"orders\",\"result\":\"created\",\"status\":201}},{\"index\":{\"_id\":\"_auto_19\",\"_index\":\"orders\",\"result\":\"created\",\"status\":201}}],\"took\":0}\n{\"_shards\":{\"failed\":0,\"skipped\":0,\"successful\":3,\"total\":3},\"aggregations\":{\"by\":{\"buckets\":[{\"doc_count\":10,\"h\":{\"buckets\":[{\"doc_count\":5,\"key\":0},{\"doc_count\":5,\"key\":100}]},\"key\":\"north\",\"s\":{\"value\":900}},{\"doc_count\":10,\"h\":{\"buckets\":[{\"doc_count\":5,\"key\":0},{\"doc_count\":5,\"key\":100}]},\"key\":\"south\",\"s\":{\"value\":1000}}],\"doc_count_error_upper_bound\":0,\"sum_other_doc_count\":0}},\"hits\":{\"hits\":[],\"max_score\":null,\"total\":{\"relation\":\"eq\",\"value\":20}},\"status\":200,\"timed_out\":false,\"took\":0}\n{\"breakers\":{\"fielddata\":{\"estimated_size_in_bytes\":361,\"granted_size_in_bytes\":361,\"limit_size_in_bytes\":429496729,\"overhead_percent\":103,\"tripped\":0},\"inflight_requests\":{\"estimated_size_in_bytes\":0,\"granted_size_in_bytes\":286,\"limit_size_in_bytes\":1073741824,\"overhead_percent\":200,\"tripped\":0},\"parent\":{\"estimated_size_in_bytes\":361,\"granted_size_in_bytes\":33656,\"limit_size_in_bytes\":751619276,\"overhead_percent\":100,\"tripped\":0},\"request\":{\"estimated_size_in_bytes\":0,\"granted_size_in_bytes\":33009,\"limit_size_in_bytes\":644245094,\"overhead_percent\":100,\"tripped\":0}}}\n") usual_orders_totals usual_orders_is_read refl (record { form = refl; each = ((refl, inl usual_orders_is_answered), tt) }, tt) usual_orders_add_up refl refl
