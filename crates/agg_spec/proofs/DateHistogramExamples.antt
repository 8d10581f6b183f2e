-- Answers of date histograms, computed: months of a leap year, weeks at a year's end, zones, instants before 1970, gaps and bounds.
use Rattle.std.specs.Prelude.{◌≡◌, refl, ℤ, pos, neg_ℤ, ℕ, Bool, true, false, List, [], ◌∷◌, Some, None, codes}
use Rattle.date_spec.specs.declared.period.Period.{Period}
use Rattle.date_spec.specs.declared.period.Period.TheVariants.{Fixed, Week, Month, Quarter, Year}
use Rattle.date_spec.specs.Periods.{month_of_day, first_day}
use Rattle.agg_model.specs.declared.aggregation.Bounds.{Bounds}
use Rattle.agg_model.specs.declared.aggregation.Search.{Search}
use Rattle.agg_model.specs.declared.query.Query.TheVariants as query
use Rattle.agg_model.specs.declared.aggregation.Kind.TheVariants as kind
use Rattle.agg_evaluation.specs.Keys.{no_bounds}
use Rattle.agg_evaluation.specs.Whole.{whole}
use Rattle.agg_spec.specs.Index.{shard_numbers}
use Rattle.agg_spec.specs.Outcome.{shard_answers}
use Rattle.agg_spec.specs.GapCount.{planned_buckets}
use Rattle.agg_spec.proofs.Samples.{dates_index, by_key, leaf, search_of, aggregations_text}
use Rattle.agg_spec.proofs.Computing.{computing}

abbrev periods : Period → ℤ → ℕ → Bounds → Bounds → Bool → Search
periods period zone min_doc_count extended hard keyed =
    search_of query.All (leaf (codes "h") (kind.DateHistogram 0 period zone min_doc_count extended hard keyed by_key None) ∷ [])

abbrev text_of : List ℤ → Search → List ℕ
text_of dates search = aggregations_text (dates_index dates) search

-- how many buckets the answer will have
abbrev planned : List ℤ → Search → ℕ
planned dates search = planned_buckets search (whole search (shard_answers (dates_index dates) search (shard_numbers (dates_index dates))))

-- 2024-01-31T23:30 and 2024-03-01 in UTC
months_and_the_gap_between_them :
    text_of (pos 1706743800000 ∷ pos 1709251200000 ∷ []) (periods Month (pos 0) 0 no_bounds no_bounds false)
    ≡ codes "{\"h\":{\"buckets\":[{\"doc_count\":1,\"key\":1704067200000,\"key_as_string\":\"2024-01-01T00:00:00.000Z\"},{\"doc_count\":0,\"key\":1706745600000,\"key_as_string\":\"2024-02-01T00:00:00.000Z\"},{\"doc_count\":1,\"key\":1709251200000,\"key_as_string\":\"2024-03-01T00:00:00.000Z\"}]}}"
unfolding computing month_of_day first_day
months_and_the_gap_between_them = refl

months_and_the_gap_between_them_planned : planned (pos 1706743800000 ∷ pos 1709251200000 ∷ []) (periods Month (pos 0) 0 no_bounds no_bounds false) ≡ 3
unfolding computing month_of_day first_day
months_and_the_gap_between_them_planned = refl

-- an hour ahead of UTC it is February
months_ahead :
    text_of (pos 1706743800000 ∷ pos 1709251200000 ∷ []) (periods Month (pos 3600000) 0 no_bounds no_bounds false)
    ≡ codes "{\"h\":{\"buckets\":[{\"doc_count\":1,\"key\":1706742000000,\"key_as_string\":\"2024-02-01T00:00:00.000+01:00\"},{\"doc_count\":1,\"key\":1709247600000,\"key_as_string\":\"2024-03-01T00:00:00.000+01:00\"}]}}"
unfolding computing month_of_day first_day
months_ahead = refl

-- 2024-02-29T23:59:59.999 and 2024-03-01
the_end_of_a_leap_february :
    text_of (pos 1709251199999 ∷ pos 1709251200000 ∷ []) (periods Month (pos 0) 0 no_bounds no_bounds false)
    ≡ codes "{\"h\":{\"buckets\":[{\"doc_count\":1,\"key\":1706745600000,\"key_as_string\":\"2024-02-01T00:00:00.000Z\"},{\"doc_count\":1,\"key\":1709251200000,\"key_as_string\":\"2024-03-01T00:00:00.000Z\"}]}}"
unfolding computing month_of_day first_day
the_end_of_a_leap_february = refl

-- 2020-12-31, 2021-01-03T23:59:59.999 and 2021-01-04, a Monday
weeks_at_a_years_end :
    text_of (pos 1609372800000 ∷ pos 1609718399999 ∷ pos 1609718400000 ∷ []) (periods Week (pos 0) 0 no_bounds no_bounds false)
    ≡ codes "{\"h\":{\"buckets\":[{\"doc_count\":2,\"key\":1609113600000,\"key_as_string\":\"2020-12-28T00:00:00.000Z\"},{\"doc_count\":1,\"key\":1609718400000,\"key_as_string\":\"2021-01-04T00:00:00.000Z\"}]}}"
unfolding computing
weeks_at_a_years_end = refl

-- the last millisecond before 1970
a_day_before_1970 :
    text_of (neg_ℤ (pos 1) ∷ []) (periods (Fixed 86400000) (pos 0) 0 no_bounds no_bounds false)
    ≡ codes "{\"h\":{\"buckets\":[{\"doc_count\":1,\"key\":-86400000,\"key_as_string\":\"1969-12-31T00:00:00.000Z\"}]}}"
unfolding computing
a_day_before_1970 = refl

-- at 1969-12-31T23:00 it is 1970 already an hour ahead of UTC
a_day_that_a_zone_moves :
    text_of (neg_ℤ (pos 1) ∷ neg_ℤ (pos 3600000) ∷ []) (periods (Fixed 86400000) (pos 3600000) 0 no_bounds no_bounds false)
    ≡ codes "{\"h\":{\"buckets\":[{\"doc_count\":2,\"key\":-3600000,\"key_as_string\":\"1970-01-01T00:00:00.000+01:00\"}]}}"
unfolding computing
a_day_that_a_zone_moves = refl

-- at 1970-01-01T00:00 it is 1969 still in a zone behind UTC
days_behind_by_name :
    text_of (pos 0 ∷ pos 64800000 ∷ []) (periods (Fixed 86400000) (neg_ℤ (pos 19800000)) 0 no_bounds no_bounds true)
    ≡ codes "{\"h\":{\"buckets\":{\"1969-12-31T00:00:00.000-05:30\":{\"doc_count\":1,\"key\":-66600000,\"key_as_string\":\"1969-12-31T00:00:00.000-05:30\"},\"1970-01-01T00:00:00.000-05:30\":{\"doc_count\":1,\"key\":19800000,\"key_as_string\":\"1970-01-01T00:00:00.000-05:30\"}}}}"
unfolding computing
days_behind_by_name = refl

-- 2023-12-31 and 2024-04-01, and bounds in 2023-07 and 2024-07
quarters_between_bounds :
    text_of (pos 1703980800000 ∷ pos 1711929600000 ∷ []) (periods Quarter (pos 0) 0 (record { min = Some (pos 1688169600001); max = Some (pos 1719792000000) }) no_bounds false)
    ≡ codes "{\"h\":{\"buckets\":[{\"doc_count\":0,\"key\":1688169600000,\"key_as_string\":\"2023-07-01T00:00:00.000Z\"},{\"doc_count\":1,\"key\":1696118400000,\"key_as_string\":\"2023-10-01T00:00:00.000Z\"},{\"doc_count\":0,\"key\":1704067200000,\"key_as_string\":\"2024-01-01T00:00:00.000Z\"},{\"doc_count\":1,\"key\":1711929600000,\"key_as_string\":\"2024-04-01T00:00:00.000Z\"},{\"doc_count\":0,\"key\":1719792000000,\"key_as_string\":\"2024-07-01T00:00:00.000Z\"}]}}"
unfolding computing month_of_day first_day
quarters_between_bounds = refl

quarters_between_bounds_planned : planned (pos 1703980800000 ∷ pos 1711929600000 ∷ []) (periods Quarter (pos 0) 0 (record { min = Some (pos 1688169600001); max = Some (pos 1719792000000) }) no_bounds false) ≡ 5
unfolding computing month_of_day first_day
quarters_between_bounds_planned = refl

-- the bounds lie within months: January does not begin at its bound, March does
hard_bounds_within_months :
    text_of (pos 1706743800000 ∷ pos 1709251200000 ∷ []) (periods Month (pos 0) 0 no_bounds (record { min = Some (pos 1704067200001); max = Some (pos 1709251200000) }) false)
    ≡ codes "{\"h\":{\"buckets\":[{\"doc_count\":1,\"key\":1709251200000,\"key_as_string\":\"2024-03-01T00:00:00.000Z\"}]}}"
unfolding computing month_of_day first_day
hard_bounds_within_months = refl

hard_bounds_within_months_planned : planned (pos 1706743800000 ∷ pos 1709251200000 ∷ []) (periods Month (pos 0) 0 no_bounds (record { min = Some (pos 1704067200001); max = Some (pos 1709251200000) }) false) ≡ 1
unfolding computing month_of_day first_day
hard_bounds_within_months_planned = refl

-- the year before 0000 in a zone behind UTC has no date: its key is a number
a_year_beyond_the_range :
    text_of (neg_ℤ (pos 62167219200000) ∷ []) (periods Year (neg_ℤ (pos 64800000)) 0 no_bounds no_bounds false)
    ≡ codes "{\"h\":{\"buckets\":[{\"doc_count\":1,\"key\":-62198690400000,\"key_as_string\":\"-62198690400000\"}]}}"
unfolding computing month_of_day first_day
a_year_beyond_the_range = refl

-- nothing is walked: ten thousand million milliseconds
milliseconds : planned (pos 0 ∷ pos 10000000000 ∷ []) (periods (Fixed 1) (pos 0) 0 no_bounds no_bounds false) ≡ 10000000001
unfolding computing
milliseconds = refl
