-- Answers with pipelines over dates, computed: months with their sums and changes, and extremes with the texts of their keys.
use Rattle.std.specs.Prelude.{◌≡◌, refl, ℤ, pos, ℕ, true, false, List, [], ◌∷◌, Some, None, codes}
use Rattle.date_spec.specs.declared.period.Period.{Period}
use Rattle.date_spec.specs.declared.period.Period.TheVariants.{Month}
use Rattle.date_spec.specs.Periods.{month_of_day, first_day}
use Rattle.agg_model.specs.declared.query.Query.TheVariants as query
use Rattle.agg_model.specs.declared.aggregation.Agg.{Agg}
use Rattle.agg_model.specs.declared.aggregation.Kind.TheVariants as kind
use Rattle.agg_model.specs.declared.aggregation.Search.{Search}
use Rattle.agg_model.specs.declared.pipeline.Pipe.{Pipe}
use Rattle.agg_model.specs.declared.pipeline.PipeKind.{PipeKind}
use Rattle.agg_model.specs.declared.pipeline.PipeKind.TheVariants as pipe
use Rattle.agg_model.specs.declared.pipeline.PipePath.TheVariants as path
use Rattle.agg_evaluation.specs.Keys.{no_bounds}
use Rattle.agg_spec.proofs.Samples.{dates_index, by_count, by_key, agg, leaf, search_of, aggregations_text}
use Rattle.agg_spec.proofs.Computing.{computing}

abbrev pipe_at : List ℕ → List ℕ → PipeKind → Pipe
pipe_at at name kind = record { at = at; name = name; kind = kind }

abbrev periods : Period → ℤ → Agg
periods period zone = leaf (codes "m") (kind.DateHistogram 0 period zone 0 no_bounds no_bounds false by_key None)

abbrev with_pipes : List Agg → List Pipe → Search
with_pipes aggs pipes = record (search_of query.All aggs) { pipes = pipes }

-- 2024-01-31T23:30, 2024-03-01, and a millisecond later
abbrev text_of : Search → List ℕ
text_of search = aggregations_text (dates_index (pos 1706743800000 ∷ pos 1709251200000 ∷ pos 1709251200001 ∷ [])) search

-- a month without documents counts as 0; the key of the greatest is a text
running_sums_of_months :
    text_of (with_pipes (periods Month (pos 0) ∷ [])
    (pipe_at (0 ∷ []) (codes "c") (pipe.CumulativeSum path.Count)
    ∷ pipe_at (0 ∷ []) (codes "d") (pipe.Derivative path.Count)
    ∷ pipe_at [] (codes "x") (pipe.MaxBucket 0 path.Count) ∷ []))
    ≡ codes "{\"m\":{\"buckets\":[{\"c\":{\"value\":1},\"doc_count\":1,\"key\":1704067200000,\"key_as_string\":\"2024-01-01T00:00:00.000Z\"},{\"c\":{\"value\":1},\"d\":{\"value\":-1},\"doc_count\":0,\"key\":1706745600000,\"key_as_string\":\"2024-02-01T00:00:00.000Z\"},{\"c\":{\"value\":3},\"d\":{\"value\":2},\"doc_count\":2,\"key\":1709251200000,\"key_as_string\":\"2024-03-01T00:00:00.000Z\"}]},\"x\":{\"keys\":[\"2024-03-01T00:00:00.000Z\"],\"value\":2}}"
unfolding computing month_of_day first_day
running_sums_of_months = refl

-- the text of a key is in the zone of its months; an extreme is of all of them, though only one is left
the_quietest_month_in_a_zone :
    text_of (with_pipes (periods Month (pos 3600000) ∷ [])
    (pipe_at (0 ∷ []) (codes "z") (pipe.BucketSort (record { path = path.Count; descending = true } ∷ []) 0 (Some 1))
    ∷ pipe_at [] (codes "x") (pipe.MinBucket 0 path.Count) ∷ []))
    ≡ codes "{\"m\":{\"buckets\":[{\"doc_count\":2,\"key\":1709247600000,\"key_as_string\":\"2024-03-01T00:00:00.000+01:00\"}]},\"x\":{\"keys\":[\"2024-02-01T00:00:00.000+01:00\"],\"value\":1}}"
unfolding computing month_of_day first_day
the_quietest_month_in_a_zone = refl

-- terms of dates have no zone of their own
extremes_of_terms :
    text_of (with_pipes (leaf (codes "t") (kind.Terms 0 10 25 1 by_count None [] None false) ∷ [])
    (pipe_at [] (codes "x") (pipe.MaxBucket 0 path.Count) ∷ []))
    ≡ codes "{\"t\":{\"buckets\":[{\"doc_count\":1,\"key\":1706743800000,\"key_as_string\":\"2024-01-31T23:30:00.000Z\"},{\"doc_count\":1,\"key\":1709251200000,\"key_as_string\":\"2024-03-01T00:00:00.000Z\"},{\"doc_count\":1,\"key\":1709251200001,\"key_as_string\":\"2024-03-01T00:00:00.001Z\"}],\"doc_count_error_upper_bound\":0,\"sum_other_doc_count\":0},\"x\":{\"keys\":[\"2024-01-31T23:30:00.000Z\",\"2024-03-01T00:00:00.000Z\",\"2024-03-01T00:00:00.001Z\"],\"value\":1}}"
unfolding computing
extremes_of_terms = refl

-- a note that stands within another aggregation has the zone of what is beside it there
an_extreme_within_a_bucket :
    text_of (with_pipes (agg (codes "g") kind.Global (periods Month (pos 0) ∷ []) ∷ [])
    (pipe_at (0 ∷ []) (codes "x") (pipe.MaxBucket 0 path.Count) ∷ []))
    ≡ codes "{\"g\":{\"doc_count\":3,\"m\":{\"buckets\":[{\"doc_count\":1,\"key\":1704067200000,\"key_as_string\":\"2024-01-01T00:00:00.000Z\"},{\"doc_count\":0,\"key\":1706745600000,\"key_as_string\":\"2024-02-01T00:00:00.000Z\"},{\"doc_count\":2,\"key\":1709251200000,\"key_as_string\":\"2024-03-01T00:00:00.000Z\"}]},\"x\":{\"keys\":[\"2024-03-01T00:00:00.000Z\"],\"value\":2}}}"
unfolding computing month_of_day first_day
an_extreme_within_a_bucket = refl
