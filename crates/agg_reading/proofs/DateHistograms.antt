-- Bodies with date histograms, each as it is read or refused.
use Rattle.std.specs.Prelude.{◌≡◌, refl, pos, neg_ℤ, [], ◌∷◌, map, Some, None, Ok, true, false, codes}
use Rattle.date_spec.specs.declared.period.Period.TheVariants.{Fixed, Week, Month, Quarter, Year}
use Rattle.agg_model.specs.declared.mapping.Mapping.{Mapping}
use Rattle.agg_model.specs.declared.mapping.FieldKind.TheVariants.{Date, Long}
use Rattle.agg_model.specs.declared.query.Query as query
use Rattle.agg_model.specs.declared.row.Scalar.TheVariants as scalar
use Rattle.agg_model.specs.declared.aggregation.Agg.{roll-Agg}
use Rattle.agg_model.specs.declared.aggregation.Kind.TheVariants as kind
use Rattle.agg_model.specs.declared.aggregation.OrderBy.TheVariants as by
use Rattle.agg_model.specs.declared.pipeline.PipeKind.TheVariants as pipe
use Rattle.agg_model.specs.declared.pipeline.PipePath.TheVariants as path
use Rattle.agg_reading.specs.Reading.{refuse}
use Rattle.agg_reading.specs.DateHistogram.{calendar_period, fixed_period, zone_of}
use Rattle.agg_reading.specs.Request.{search_of}
use Rattle.agg_reading.proofs.Computing.{computing}

-- dates `d` and numbers `n`
abbrev fields : Mapping
fields = record {
  fields =
      record { path = codes "d"; kind = Date; ignore_above = None; context = 0 } ∷ record { path = codes "n"; kind = Long; ignore_above = None; context = 0 } ∷ [];
  nested = [];
  objects = [];
  strict = false;
}

months_with_defaults : search_of fields (codes "{\"aggs\":{\"a\":{\"date_histogram\":{\"field\":\"d\",\"calendar_interval\":\"month\"}}}}")
    ≡ Ok (record {
      query = query.All;
      aggs = roll-Agg (record { name = codes "a"; kind = kind.DateHistogram 0 Month (pos 0) 0 (record { min = None; max = None }) (record { min = None; max = None }) false (record { by = by.Key; descending = false } ∷ []) None; children = [] }) ∷ [];
      body_bytes = 75;
      partial = false;
      pipes = [];
    })
unfolding computing
months_with_defaults = refl

twelve_hours_with_all_members : search_of fields (codes "{\"aggs\":{\"a\":{\"date_histogram\":{\"field\":\"d\",\"fixed_interval\":\"12h\",\"time_zone\":\"-05:30\",\"min_doc_count\":1,\"extended_bounds\":{\"min\":\"2024-03\",\"max\":1709337600000},\"hard_bounds\":{\"min\":\"1969-12-31T23:59:59.999Z\"},\"keyed\":true,\"order\":{\"_count\":\"desc\"},\"missing\":\"1970\"}}}}")
    ≡ Ok (record {
      query = query.All;
      aggs = roll-Agg (record {
        name = codes "a";
        kind = kind.DateHistogram 0 (Fixed 43_200_000) (neg_ℤ (pos 19_800_000)) 1 (record { min = Some (pos 1709251200000); max = Some (pos 1709337600000) })
            (record { min = Some (neg_ℤ (pos 1)); max = None }) true (record { by = by.Count; descending = true } ∷ []) (Some (scalar.Whole (pos 0)));
        children = [];
      }) ∷ [];
      body_bytes = 270;
      partial = false;
      pipes = [];
    })
unfolding computing
twelve_hours_with_all_members = refl

-- a running sum and a cut below months, and the greatest month beside them
pipelines_below_and_beside_months :
    search_of fields (codes "{\"aggs\":{\"m\":{\"date_histogram\":{\"field\":\"d\",\"calendar_interval\":\"month\"},\"aggs\":{\"c\":{\"cumulative_sum\":{\"buckets_path\":\"_count\"}},\"z\":{\"bucket_sort\":{\"size\":3}}}},\"x\":{\"max_bucket\":{\"buckets_path\":\"m>_count\"}}}}")
    ≡ Ok (record {
      query = query.All;
      aggs = roll-Agg (record { name = codes "m"; kind = kind.DateHistogram 0 Month (pos 0) 0 (record { min = None; max = None }) (record { min = None; max = None }) false (record { by = by.Key; descending = false } ∷ []) None; children = [] }) ∷ [];
      body_bytes = 211;
      partial = false;
      pipes =
          record { at = 0 ∷ []; name = codes "c"; kind = pipe.CumulativeSum path.Count }
          ∷ record { at = 0 ∷ []; name = codes "z"; kind = pipe.BucketSort [] 0 (Some 3) }
          ∷ record { at = []; name = codes "x"; kind = pipe.MaxBucket 0 path.Count } ∷ [];
    })
unfolding computing
pipelines_below_and_beside_months = refl

calendar_intervals :
    map calendar_period (codes "minute" ∷ codes "1m" ∷ codes "1h" ∷ codes "day" ∷ codes "1w" ∷ codes "1M" ∷ codes "1q" ∷ codes "year" ∷ codes "2d" ∷ codes "Month" ∷ [])
    ≡ Some (Fixed 60_000) ∷ Some (Fixed 60_000) ∷ Some (Fixed 3_600_000) ∷ Some (Fixed 86_400_000) ∷ Some Week ∷ Some Month ∷ Some Quarter ∷ Some Year ∷ None ∷ None ∷ []
unfolding computing
calendar_intervals = refl

fixed_intervals :
    map fixed_period (codes "1ms" ∷ codes "90m" ∷ codes "2147483647d" ∷ codes "2147483648d" ∷ codes "0d" ∷ codes "01d" ∷ codes "1w" ∷ codes "1M" ∷ codes "d" ∷ codes "1" ∷ codes "" ∷ codes "1 d" ∷ [])
    ≡ Some (Fixed 1) ∷ Some (Fixed 5_400_000) ∷ Some (Fixed 185_542_587_100_800_000) ∷ None ∷ None ∷ None ∷ None ∷ None ∷ None ∷ None ∷ None ∷ None ∷ []
unfolding computing
fixed_intervals = refl

zones :
    map zone_of (codes "UTC" ∷ codes "Z" ∷ codes "+00:00" ∷ codes "+18:00" ∷ codes "-09:30" ∷ codes "+18:01" ∷ codes "+01:60" ∷ codes "+0100" ∷ codes "+01" ∷ codes "01:00" ∷ codes "utc" ∷ codes "" ∷ [])
    ≡ Some (pos 0) ∷ Some (pos 0) ∷ Some (pos 0) ∷ Some (pos 64_800_000) ∷ Some (neg_ℤ (pos 34_200_000)) ∷ None ∷ None ∷ None ∷ None ∷ None ∷ None ∷ None ∷ []
unfolding computing
zones = refl

an_interval_of_numbers_is_101 : search_of fields (codes "{\"aggs\":{\"a\":{\"date_histogram\":{\"field\":\"d\",\"interval\":10}}}}") ≡ refuse 101 (codes "/aggs/a/date_histogram/interval")
unfolding computing
an_interval_of_numbers_is_101 = refl

no_interval_is_102 : search_of fields (codes "{\"aggs\":{\"a\":{\"date_histogram\":{\"field\":\"d\"}}}}") ≡ refuse 102 (codes "/aggs/a/date_histogram")
unfolding computing
no_interval_is_102 = refl

two_intervals_are_104 : search_of fields (codes "{\"aggs\":{\"a\":{\"date_histogram\":{\"field\":\"d\",\"calendar_interval\":\"day\",\"fixed_interval\":\"1d\"}}}}") ≡ refuse 104 (codes "/aggs/a/date_histogram/fixed_interval")
unfolding computing
two_intervals_are_104 = refl

a_bad_interval_is_before_two : search_of fields (codes "{\"aggs\":{\"a\":{\"date_histogram\":{\"field\":\"d\",\"calendar_interval\":\"2d\",\"fixed_interval\":\"1d\"}}}}") ≡ refuse 104 (codes "/aggs/a/date_histogram/calendar_interval")
unfolding computing
a_bad_interval_is_before_two = refl

no_interval_is_before_bounds_outside : search_of fields (codes "{\"aggs\":{\"a\":{\"date_histogram\":{\"field\":\"d\",\"hard_bounds\":{\"max\":5},\"extended_bounds\":{\"max\":6}}}}}") ≡ refuse 102 (codes "/aggs/a/date_histogram")
unfolding computing
no_interval_is_before_bounds_outside = refl

an_interval_that_is_no_text_is_103 : search_of fields (codes "{\"aggs\":{\"a\":{\"date_histogram\":{\"field\":\"d\",\"fixed_interval\":1000}}}}") ≡ refuse 103 (codes "/aggs/a/date_histogram/fixed_interval")
unfolding computing
an_interval_that_is_no_text_is_103 = refl

a_zone_beyond_18_hours_is_104 : search_of fields (codes "{\"aggs\":{\"a\":{\"date_histogram\":{\"field\":\"d\",\"calendar_interval\":\"day\",\"time_zone\":\"+18:01\"}}}}") ≡ refuse 104 (codes "/aggs/a/date_histogram/time_zone")
unfolding computing
a_zone_beyond_18_hours_is_104 = refl

a_bound_that_is_no_date_is_104 : search_of fields (codes "{\"aggs\":{\"a\":{\"date_histogram\":{\"field\":\"d\",\"calendar_interval\":\"day\",\"hard_bounds\":{\"max\":\"2023-02-29\"}}}}}") ≡ refuse 104 (codes "/aggs/a/date_histogram/hard_bounds/max")
unfolding computing
a_bound_that_is_no_date_is_104 = refl

a_bound_beyond_the_range_is_104 : search_of fields (codes "{\"aggs\":{\"a\":{\"date_histogram\":{\"field\":\"d\",\"calendar_interval\":\"day\",\"hard_bounds\":{\"min\":253402214400000}}}}}") ≡ refuse 104 (codes "/aggs/a/date_histogram/hard_bounds/min")
unfolding computing
a_bound_beyond_the_range_is_104 = refl

a_bound_with_a_fraction_is_104 : search_of fields (codes "{\"aggs\":{\"a\":{\"date_histogram\":{\"field\":\"d\",\"calendar_interval\":\"day\",\"hard_bounds\":{\"min\":1.5}}}}}") ≡ refuse 104 (codes "/aggs/a/date_histogram/hard_bounds/min")
unfolding computing
a_bound_with_a_fraction_is_104 = refl

a_bound_that_is_a_truth_value_is_103 : search_of fields (codes "{\"aggs\":{\"a\":{\"date_histogram\":{\"field\":\"d\",\"calendar_interval\":\"day\",\"extended_bounds\":{\"min\":true}}}}}") ≡ refuse 103 (codes "/aggs/a/date_histogram/extended_bounds/min")
unfolding computing
a_bound_that_is_a_truth_value_is_103 = refl

bounds_with_min_after_max_are_104 : search_of fields (codes "{\"aggs\":{\"a\":{\"date_histogram\":{\"field\":\"d\",\"calendar_interval\":\"day\",\"extended_bounds\":{\"min\":\"2024\",\"max\":\"2023\"}}}}}") ≡ refuse 104 (codes "/aggs/a/date_histogram/extended_bounds")
unfolding computing
bounds_with_min_after_max_are_104 = refl

extended_bounds_outside_hard_bounds_are_104 : search_of fields (codes "{\"aggs\":{\"a\":{\"date_histogram\":{\"field\":\"d\",\"calendar_interval\":\"day\",\"hard_bounds\":{\"max\":\"2023\"},\"extended_bounds\":{\"max\":\"2024\"}}}}}") ≡ refuse 104 (codes "/aggs/a/date_histogram/extended_bounds")
unfolding computing
extended_bounds_outside_hard_bounds_are_104 = refl

a_missing_value_that_is_no_date_is_104 : search_of fields (codes "{\"aggs\":{\"a\":{\"date_histogram\":{\"field\":\"d\",\"calendar_interval\":\"day\",\"missing\":true}}}}") ≡ refuse 104 (codes "/aggs/a/date_histogram/missing")
unfolding computing
a_missing_value_that_is_no_date_is_104 = refl

periods_of_numbers_are_108 : search_of fields (codes "{\"aggs\":{\"a\":{\"date_histogram\":{\"field\":\"n\",\"calendar_interval\":\"day\"}}}}") ≡ refuse 108 (codes "/aggs/a/date_histogram/field")
unfolding computing
periods_of_numbers_are_108 = refl
