-- Dates in mappings, documents, queries and aggregations, each as it is read or refused.
use Rattle.std.specs.Prelude.{◌≡◌, refl, pos, neg_ℤ, [], ◌∷◌, Some, None, Ok, false, codes}
use Rattle.serde_json.specs.Data.{string}
use Rattle.agg_model.specs.declared.mapping.Mapping.{Mapping}
use Rattle.agg_model.specs.declared.mapping.FieldKind.TheVariants.{Date}
use Rattle.agg_model.specs.declared.query.Query as query
use Rattle.agg_model.specs.declared.query.Probe.TheVariants as probe
use Rattle.agg_model.specs.declared.query.RangeOp.TheVariants as op
use Rattle.agg_model.specs.declared.row.Scalar.TheVariants as scalar
use Rattle.agg_model.specs.declared.row.Row.{roll-Row}
use Rattle.agg_reading.specs.Reading.{refuse}
use Rattle.agg_reading.specs.IndexLine.{index_line_at}
use Rattle.agg_reading.specs.Document.{document_at}
use Rattle.agg_reading.specs.Scalars.{probe_of}
use Rattle.agg_reading.specs.Terms.{missing_at}
use Rattle.agg_reading.specs.Request.{search_of}
use Rattle.agg_reading.proofs.Computing.{computing}

-- one field, `d`
abbrev dated : Mapping
dated = record { fields = record { path = codes "d"; kind = Date; ignore_above = None; context = 0 } ∷ []; nested = []; objects = []; strict = false }

the_one_format : index_line_at (codes "{\"index\":\"i\",\"mappings\":{\"properties\":{\"d\":{\"type\":\"date\",\"format\":\"strict_date_optional_time||epoch_millis\",\"index\":false}}}}")
    ≡ Ok (record { name = codes "i"; mapping = dated; shards = 1 })
unfolding computing
the_one_format = refl

another_format_is_31 : index_line_at (codes "{\"index\":\"i\",\"mappings\":{\"properties\":{\"d\":{\"type\":\"date\",\"format\":\"epoch_millis\"}}}}")
    ≡ refuse 31 (codes "/mappings/properties/d/format")
unfolding computing
another_format_is_31 = refl

a_format_of_numbers_is_31 : index_line_at (codes "{\"index\":\"i\",\"mappings\":{\"properties\":{\"d\":{\"type\":\"long\",\"format\":\"strict_date_optional_time||epoch_millis\"}}}}")
    ≡ refuse 31 (codes "/mappings/properties/d/format")
unfolding computing
a_format_of_numbers_is_31 = refl

a_text_and_a_number : document_at dated (codes "{\"d\":[\"2024-03-01\",1709251200001]}")
    ≡ Ok (roll-Row (record { values = record { field = 0; values = scalar.Whole (pos 1709251200000) ∷ scalar.Whole (pos 1709251200001) ∷ [] } ∷ []; children = [] }))
unfolding computing
a_text_and_a_number = refl

a_day_that_there_is_not_is_21 : document_at dated (codes "{\"d\":\"2023-02-29\"}") ≡ refuse 21 (codes "d")
unfolding computing
a_day_that_there_is_not_is_21 = refl

a_fraction_is_21 : document_at dated (codes "{\"d\":1709251200000.5}") ≡ refuse 21 (codes "d")
unfolding computing
a_fraction_is_21 = refl

a_truth_value_is_21 : document_at dated (codes "{\"d\":true}") ≡ refuse 21 (codes "d")
unfolding computing
a_truth_value_is_21 = refl

the_last_day_is_22 : document_at dated (codes "{\"d\":\"9999-12-31\"}") ≡ refuse 22 (codes "d")
unfolding computing
the_last_day_is_22 = refl

a_number_before_the_year_0000_is_22 : document_at dated (codes "{\"d\":-62167219200001}") ≡ refuse 22 (codes "d")
unfolding computing
a_number_before_the_year_0000_is_22 = refl

a_year_is_asked_for : probe_of Date (string (codes "2024")) ≡ Some (probe.Whole (pos 1704067200000))
unfolding computing
a_year_is_asked_for = refl

the_last_day_is_asked_for_in_vain : probe_of Date (string (codes "9999-12-31")) ≡ None
unfolding computing
the_last_day_is_asked_for_in_vain = refl

a_missing_text : missing_at Date [] (string (codes "1969-12-31T23:59:59.999Z")) ≡ Ok (scalar.Whole (neg_ℤ (pos 1)))
unfolding computing
a_missing_text = refl

a_bound_beyond_the_range_is_taken : search_of dated (codes "{\"query\":{\"range\":{\"d\":{\"gte\":\"2024\",\"lt\":253402214400000}}}}")
    ≡ Ok (record { query = query.Range 0 (record { op = op.Gte; value = probe.Whole (pos 1704067200000) } ∷ record { op = op.Lt; value = probe.Whole (pos 253402214400000) } ∷ []); aggs = []; body_bytes = 61; partial = false; pipes = [] })
unfolding computing
a_bound_beyond_the_range_is_taken = refl

a_missing_value_beyond_the_range_is_104 : search_of dated (codes "{\"aggs\":{\"a\":{\"terms\":{\"field\":\"d\",\"missing\":253402214400000}}}}") ≡ refuse 104 (codes "/aggs/a/terms/missing")
unfolding computing
a_missing_value_beyond_the_range_is_104 = refl

a_bound_beyond_64_bits_is_104 : search_of dated (codes "{\"query\":{\"range\":{\"d\":{\"lt\":9223372036854775808}}}}") ≡ refuse 104 (codes "/query/range/d/lt")
unfolding computing
a_bound_beyond_64_bits_is_104 = refl

a_sum_of_dates_is_108 : search_of dated (codes "{\"aggs\":{\"a\":{\"max\":{\"field\":\"d\"}},\"b\":{\"sum\":{\"field\":\"d\"}}}}") ≡ refuse 108 (codes "/aggs/b/sum/field")
unfolding computing
a_sum_of_dates_is_108 = refl

a_histogram_of_dates_is_108 : search_of dated (codes "{\"aggs\":{\"a\":{\"histogram\":{\"field\":\"d\",\"interval\":1}}}}") ≡ refuse 108 (codes "/aggs/a/histogram/field")
unfolding computing
a_histogram_of_dates_is_108 = refl
