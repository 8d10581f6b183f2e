-- Answers over dates, computed: keys of terms have a text, and all others are numbers.
use Rattle.std.specs.Prelude.{◌≡◌, refl, pos, neg_ℤ, false, [], ◌∷◌, None, codes}
use Rattle.agg_model.specs.declared.query.Query.TheVariants as query
use Rattle.agg_model.specs.declared.aggregation.Kind.TheVariants as kind
use Rattle.agg_spec.proofs.Samples.{dates_index, by_count, leaf, search_of, aggregations_text}
use Rattle.agg_spec.proofs.Computing.{computing}

terms_of_dates_have_texts :
    aggregations_text (dates_index (pos 1709251200000 ∷ pos 1709251200000 ∷ [])) (search_of query.All (leaf (codes "d") (kind.Terms 0 10 25 1 by_count None [] None false) ∷ []))
    ≡ codes "{\"d\":{\"buckets\":[{\"doc_count\":2,\"key\":1709251200000,\"key_as_string\":\"2024-03-01T00:00:00.000Z\"}],\"doc_count_error_upper_bound\":0,\"sum_other_doc_count\":0}}"
unfolding computing
terms_of_dates_have_texts = refl

the_least_and_the_greatest_are_numbers :
    aggregations_text (dates_index (pos 1709251200000 ∷ neg_ℤ (pos 1) ∷ [])) (search_of query.All (leaf (codes "g") (kind.Max 0 None) ∷ leaf (codes "l") (kind.Min 0 None) ∷ []))
    ≡ codes "{\"g\":{\"value\":1709251200000},\"l\":{\"value\":-1}}"
unfolding computing
the_least_and_the_greatest_are_numbers = refl

parts_of_keys_are_numbers :
    aggregations_text (dates_index (neg_ℤ (pos 1) ∷ [])) (search_of query.All (leaf (codes "p") (kind.Composite (record { name = codes "d"; field = 0; interval = None; descending = false; missing_bucket = false } ∷ []) 10 None) ∷ []))
    ≡ codes "{\"p\":{\"after_key\":{\"d\":-1},\"buckets\":[{\"doc_count\":1,\"key\":{\"d\":-1}}]}}"
unfolding computing
parts_of_keys_are_numbers = refl
