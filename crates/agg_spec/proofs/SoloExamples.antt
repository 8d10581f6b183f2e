-- Solo runs, computed: charges and holds, the first refused charge, and the statistics after it.
use Rattle.std.specs.Prelude.{◌≡◌, refl, ℕ, ◌+◌, pos, negsuc, true, List, [], ◌∷◌, Some, None, codes}
use Rattle.agg_model.specs.declared.query.Query.TheVariants as query
use Rattle.agg_model.specs.declared.aggregation.Kind.TheVariants as kind
use Rattle.agg_spec.specs.Index.{Index}
use Rattle.agg_spec.proofs.Samples.{words, row, index, one_shard, by_count, leaf, search_of}
use Rattle.std.specs.Prelude.{map, length, Err}
use Rattle.agg_model.specs.declared.breaker.Which.TheVariants as which
use Rattle.agg_model.specs.declared.breaker.Totals.{Totals}
use Rattle.agg_model.specs.declared.settings.Settings.{Settings}
use Rattle.agg_model.specs.declared.outcome.Outcome.{Outcome}
use Rattle.agg_model.specs.declared.outcome.Outcome.TheVariants as ended
use Rattle.agg_model.specs.declared.outcome.Refused.TheVariants as refused
use Rattle.agg_evaluation.specs.Trace.{trace}
use Rattle.agg_spec.specs.Outcome.{Request, outcome}
use Rattle.agg_spec.specs.Reduction.{batches}
use Rattle.agg_spec.specs.Solo.{idle, solo_answer, solo_run}
use Rattle.agg_spec.specs.Columns.{columns_charge, columns_refusal}
use Rattle.agg_spec.specs.Statistics.{solo_totals}
use Rattle.agg_spec.specs.StatisticsLine.{statistics_line}
use Rattle.agg_spec.proofs.Samples.{default_limits, settings, request_limit, request, terms}
use Rattle.agg_spec.proofs.Computing.{computing}

abbrev solo_outcome : Settings → Index → ℕ → Request → Outcome
solo_outcome s i columns r = (solo_answer s i (idle columns) r).outcome

abbrev totals_alone : Settings → Index → ℕ → List Request → Totals
totals_alone s i columns requests = solo_totals s i columns (record { settings = s; requests = requests; answers = [] } ∷ [])

abbrev no_documents : Index
no_documents = one_shard []

abbrev two_words : Index
two_words = one_shard (row (words (codes "a" ∷ []) ∷ []) ∷ row (words (codes "b" ∷ []) ∷ []) ∷ [])

abbrev two_shards : Index
two_shards = index ((row (words (codes "a" ∷ []) ∷ []) ∷ row (words (codes "a" ∷ []) ∷ []) ∷ row (words (codes "a" ∷ []) ∷ []) ∷ row (words (codes "b" ∷ []) ∷ []) ∷ row (words (codes "b" ∷ []) ∷ []) ∷ []) ∷ (row (words (codes "b" ∷ []) ∷ []) ∷ row (words (codes "b" ∷ []) ∷ []) ∷ row (words (codes "b" ∷ []) ∷ []) ∷ row (words (codes "a" ∷ []) ∷ []) ∷ []) ∷ [])

abbrev seven_shards : Index
seven_shards = index ((row (words (codes "a" ∷ []) ∷ []) ∷ row (words (codes "a" ∷ []) ∷ []) ∷ row (words (codes "a" ∷ []) ∷ []) ∷ row (words (codes "b" ∷ []) ∷ []) ∷ []) ∷ (row (words (codes "a" ∷ []) ∷ []) ∷ row (words (codes "b" ∷ []) ∷ []) ∷ []) ∷ (row (words (codes "a" ∷ []) ∷ []) ∷ row (words (codes "b" ∷ []) ∷ []) ∷ row (words (codes "b" ∷ []) ∷ []) ∷ []) ∷ (row (words (codes "a" ∷ []) ∷ []) ∷ row (words (codes "a" ∷ []) ∷ []) ∷ row (words (codes "a" ∷ []) ∷ []) ∷ []) ∷ (row (words (codes "a" ∷ []) ∷ []) ∷ row (words (codes "b" ∷ []) ∷ []) ∷ row (words (codes "b" ∷ []) ∷ []) ∷ row (words (codes "b" ∷ []) ∷ []) ∷ []) ∷ (row (words (codes "a" ∷ []) ∷ []) ∷ row (words (codes "b" ∷ []) ∷ []) ∷ []) ∷ (row (words (codes "a" ∷ []) ∷ []) ∷ row (words (codes "a" ∷ []) ∷ []) ∷ []) ∷ [])

columns_of_two_words : columns_charge two_words ≡ 19
unfolding computing
columns_of_two_words = refl

columns_of_two_shards : columns_charge two_shards ≡ 79
unfolding computing
columns_of_two_shards = refl

columns_beyond_a_limit : columns_refusal (record default_limits { fielddata = 18 }) 19 ≡ Some (record { which = which.Fielddata; wanted = 19; limit = 18 })
unfolding computing
columns_beyond_a_limit = refl

columns_at_a_limit : columns_refusal (record default_limits { fielddata = 19 }) 19 ≡ None
unfolding computing
columns_at_a_limit = refl

columns_beyond_the_parent : columns_refusal (record default_limits { parent = 0 }) 19 ≡ Some (record { which = which.Parent; wanted = 19; limit = 0 })
unfolding computing
columns_beyond_the_parent = refl

statistics_of_no_documents :
    statistics_line (totals_alone (settings default_limits) no_documents 0 (terms ∷ []))
    ≡ codes "{\"breakers\":{\"fielddata\":{\"estimated_size_in_bytes\":0,\"granted_size_in_bytes\":0,\"limit_size_in_bytes\":429496729,\"overhead_percent\":103,\"tripped\":0},\"inflight_requests\":{\"estimated_size_in_bytes\":0,\"granted_size_in_bytes\":76,\"limit_size_in_bytes\":1073741824,\"overhead_percent\":200,\"tripped\":0},\"parent\":{\"estimated_size_in_bytes\":0,\"granted_size_in_bytes\":4949,\"limit_size_in_bytes\":751619276,\"overhead_percent\":100,\"tripped\":0},\"request\":{\"estimated_size_in_bytes\":0,\"granted_size_in_bytes\":4873,\"limit_size_in_bytes\":644245094,\"overhead_percent\":100,\"tripped\":0}}}"
unfolding computing
statistics_of_no_documents = refl

-- the body, the result and the response are held at the end
holds_of_two_words : (solo_run (settings default_limits) two_words (idle 19) terms).run.holds ≡ record { request = 770 + 316; fielddata = 19; inflight = 76; parent = 19 + 76 + 770 + 316 }
unfolding computing
holds_of_two_words = refl

abbrev trips_at : ℕ → ℕ → Type 0
trips_at limit wanted = solo_outcome (request_limit limit) two_words 19 terms ≡ ended.Tripped (record { which = which.Request; wanted = wanted; limit = limit })

request_limit_of_0 : trips_at 0 4608
unfolding computing
request_limit_of_0 = refl

request_limit_of_4607 : trips_at 4607 4608
unfolding computing
request_limit_of_4607 = refl

request_limit_of_4608 : trips_at 4608 4737
unfolding computing
request_limit_of_4608 = refl

request_limit_of_4736 : trips_at 4736 4737
unfolding computing
request_limit_of_4736 = refl

request_limit_of_4737 : trips_at 4737 4866
unfolding computing
request_limit_of_4737 = refl

request_limit_of_4865 : trips_at 4865 4866
unfolding computing
request_limit_of_4865 = refl

-- the response
request_limit_of_4866 : solo_outcome (request_limit 4866) two_words 19 terms ≡ outcome two_words 65536 terms []
unfolding computing
request_limit_of_4866 = refl

statistics_after_a_refused_task :
    statistics_line (totals_alone (request_limit 4865) two_words 19 (terms ∷ []))
    ≡ codes "{\"breakers\":{\"fielddata\":{\"estimated_size_in_bytes\":19,\"granted_size_in_bytes\":19,\"limit_size_in_bytes\":429496729,\"overhead_percent\":103,\"tripped\":0},\"inflight_requests\":{\"estimated_size_in_bytes\":0,\"granted_size_in_bytes\":76,\"limit_size_in_bytes\":1073741824,\"overhead_percent\":200,\"tripped\":0},\"parent\":{\"estimated_size_in_bytes\":19,\"granted_size_in_bytes\":4832,\"limit_size_in_bytes\":751619276,\"overhead_percent\":100,\"tripped\":0},\"request\":{\"estimated_size_in_bytes\":0,\"granted_size_in_bytes\":4737,\"limit_size_in_bytes\":4865,\"overhead_percent\":100,\"tripped\":1}}}"
unfolding computing
statistics_after_a_refused_task = refl

statistics_after_a_response :
    statistics_line (totals_alone (request_limit 4866) two_words 19 (terms ∷ []))
    ≡ codes "{\"breakers\":{\"fielddata\":{\"estimated_size_in_bytes\":19,\"granted_size_in_bytes\":19,\"limit_size_in_bytes\":429496729,\"overhead_percent\":103,\"tripped\":0},\"inflight_requests\":{\"estimated_size_in_bytes\":0,\"granted_size_in_bytes\":76,\"limit_size_in_bytes\":1073741824,\"overhead_percent\":200,\"tripped\":0},\"parent\":{\"estimated_size_in_bytes\":19,\"granted_size_in_bytes\":5277,\"limit_size_in_bytes\":751619276,\"overhead_percent\":100,\"tripped\":0},\"request\":{\"estimated_size_in_bytes\":0,\"granted_size_in_bytes\":5182,\"limit_size_in_bytes\":4866,\"overhead_percent\":100,\"tripped\":0}}}"
unfolding computing
statistics_after_a_response = refl

refused_by_the_parent :
    solo_outcome (settings (record default_limits { parent = 95 })) two_words 19 terms ≡ ended.Tripped (record { which = which.Parent; wanted = 4703; limit = 95 })
unfolding computing
refused_by_the_parent = refl

statistics_after_a_refusal_by_the_parent :
    statistics_line (totals_alone (settings (record default_limits { parent = 95 })) two_words 19 (terms ∷ []))
    ≡ codes "{\"breakers\":{\"fielddata\":{\"estimated_size_in_bytes\":19,\"granted_size_in_bytes\":19,\"limit_size_in_bytes\":429496729,\"overhead_percent\":103,\"tripped\":0},\"inflight_requests\":{\"estimated_size_in_bytes\":0,\"granted_size_in_bytes\":76,\"limit_size_in_bytes\":1073741824,\"overhead_percent\":200,\"tripped\":0},\"parent\":{\"estimated_size_in_bytes\":19,\"granted_size_in_bytes\":95,\"limit_size_in_bytes\":95,\"overhead_percent\":100,\"tripped\":1},\"request\":{\"estimated_size_in_bytes\":0,\"granted_size_in_bytes\":0,\"limit_size_in_bytes\":644245094,\"overhead_percent\":100,\"tripped\":0}}}"
unfolding computing
statistics_after_a_refusal_by_the_parent = refl

refused_body :
    solo_outcome (settings (record default_limits { parent = 0 })) no_documents 0 terms ≡ ended.Tripped (record { which = which.Parent; wanted = 76; limit = 0 })
unfolding computing
refused_body = refl

body_that_is_not_json :
    solo_outcome (settings default_limits) no_documents 0 (record { bytes = 8; search = Err refused.NotJson }) ≡ ended.Refused refused.NotJson
unfolding computing
body_that_is_not_json = refl

trace_of_the_first_shard : map (trace (search_of query.All (leaf (codes "t") (kind.Terms 2 1 1 1 by_count None [] None true) ∷ []))) two_shards.shards
    ≡ (pos 4608 ∷ pos 129 ∷ pos 129 ∷ negsuc 4224 ∷ []) ∷ (pos 4608 ∷ pos 129 ∷ pos 129 ∷ negsuc 4224 ∷ []) ∷ []
unfolding computing
trace_of_the_first_shard = refl

-- the merge charges 1282 and then holds 770
statistics_of_a_merge :
    statistics_line (totals_alone (settings default_limits) two_shards 79 (request 95 (search_of query.All (leaf (codes "t") (kind.Terms 2 1 1 1 by_count None [] None true) ∷ [])) ∷ []))
    ≡ codes "{\"breakers\":{\"fielddata\":{\"estimated_size_in_bytes\":79,\"granted_size_in_bytes\":79,\"limit_size_in_bytes\":429496729,\"overhead_percent\":103,\"tripped\":0},\"inflight_requests\":{\"estimated_size_in_bytes\":0,\"granted_size_in_bytes\":190,\"limit_size_in_bytes\":1073741824,\"overhead_percent\":200,\"tripped\":0},\"parent\":{\"estimated_size_in_bytes\":79,\"granted_size_in_bytes\":11605,\"limit_size_in_bytes\":751619276,\"overhead_percent\":100,\"tripped\":0},\"request\":{\"estimated_size_in_bytes\":0,\"granted_size_in_bytes\":11336,\"limit_size_in_bytes\":644245094,\"overhead_percent\":100,\"tripped\":0}}}"
unfolding computing
statistics_of_a_merge = refl

batches_of_two : map length (batches 2 seven_shards.shards) ≡ 2 ∷ 2 ∷ 2 ∷ 1 ∷ []
unfolding computing
batches_of_two = refl

statistics_of_four_batches :
    statistics_line (totals_alone (record (settings default_limits) { batch = 2 }) seven_shards 178 (terms ∷ []))
    ≡ codes "{\"breakers\":{\"fielddata\":{\"estimated_size_in_bytes\":178,\"granted_size_in_bytes\":178,\"limit_size_in_bytes\":429496729,\"overhead_percent\":103,\"tripped\":0},\"inflight_requests\":{\"estimated_size_in_bytes\":0,\"granted_size_in_bytes\":76,\"limit_size_in_bytes\":1073741824,\"overhead_percent\":200,\"tripped\":0},\"parent\":{\"estimated_size_in_bytes\":178,\"granted_size_in_bytes\":41818,\"limit_size_in_bytes\":751619276,\"overhead_percent\":100,\"tripped\":0},\"request\":{\"estimated_size_in_bytes\":0,\"granted_size_in_bytes\":41564,\"limit_size_in_bytes\":644245094,\"overhead_percent\":100,\"tripped\":0}}}"
unfolding computing
statistics_of_four_batches = refl

response_whatever_the_batches : solo_outcome (record (settings default_limits) { batch = 2 }) seven_shards 178 terms ≡ outcome seven_shards 65536 terms []
unfolding computing
response_whatever_the_batches = refl

abbrev partial_terms : Request
partial_terms = request 131 (record (search_of query.All (leaf (codes "t") (kind.Terms 2 1 1 1 by_count None [] None true) ∷ [])) { partial = true })

-- the second shard is left out, and what its task holds is given back
second_shard_fails :
    (solo_answer (request_limit 5000) two_shards (idle 79) partial_terms).failures ≡ record { shard = 1; tripped = record { which = which.Request; wanted = 5249; limit = 5000 } } ∷ []
unfolding computing
second_shard_fails = refl

all_shards_fail :
    solo_answer (request_limit 4000) two_shards (idle 79) partial_terms
    ≡ record {
      outcome = ended.Tripped (record { which = which.Request; wanted = 4608; limit = 4000 });
      failures = record { shard = 0; tripped = record { which = which.Request; wanted = 4608; limit = 4000 } } ∷ record { shard = 1; tripped = record { which = which.Request; wanted = 4608; limit = 4000 } } ∷ [];
    }
unfolding computing
all_shards_fail = refl
