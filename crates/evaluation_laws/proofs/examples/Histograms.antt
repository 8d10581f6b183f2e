-- Histogram aggregations of one shard. Field 1 is n (long).
use Rattle.std.specs.Prelude.{◌≡◌, refl, pos, negsuc, false, List, [], ◌∷◌, Some, None, codes}
use Rattle.agg_model.specs.declared.key.Key.TheVariants as key
use Rattle.agg_model.specs.declared.row.Scalar.TheVariants as scalar
use Rattle.agg_model.specs.declared.query.Query.TheVariants as query
use Rattle.agg_model.specs.declared.aggregation.Kind.TheVariants as kind
use Rattle.agg_evaluation.specs.Rows.{PlacedRow, shard_rows}
use Rattle.agg_evaluation.specs.Keys.{no_bounds}
use Rattle.agg_evaluation.specs.Shard.{shard_answer}
use Rattle.agg_evaluation.proofs.Computing.{computing}
use Rattle.evaluation_laws.proofs.Samples.{numbers, words, flat, document, by_key, bounds, agg, search_of, bucket, keyed, result}

abbrev three : List PlacedRow
three = shard_rows
    (document (codes "1") (flat (numbers 1 ((negsuc 0) ∷ []) ∷ []))
    ∷ document (codes "2") (flat (numbers 1 ((pos 0) ∷ []) ∷ []))
    ∷ document (codes "3") (flat (numbers 1 ((pos 25) ∷ []) ∷ []))
    ∷ [])

a_negative_value_goes_down : shard_answer (search_of query.All ((agg (codes "h") (kind.Histogram 1 10 0 0 no_bounds no_bounds false by_key None) []) ∷ [])) three
    ≡ result 3 ((keyed (bucket (key.Whole (negsuc 9)) 1 [] ∷ bucket (key.Whole (pos 0)) 1 [] ∷ bucket (key.Whole (pos 20)) 1 [] ∷ [])) ∷ [])
unfolding computing
a_negative_value_goes_down = refl

keys_start_at_the_offset : shard_answer (search_of query.All ((agg (codes "h") (kind.Histogram 1 10 3 0 no_bounds no_bounds false by_key None) []) ∷ [])) three
    ≡ result 3 ((keyed (bucket (key.Whole (negsuc 6)) 2 [] ∷ bucket (key.Whole (pos 23)) 1 [] ∷ [])) ∷ [])
unfolding computing
keys_start_at_the_offset = refl

abbrev edges : List PlacedRow
edges = shard_rows
    (document (codes "1") (flat (numbers 1 ((negsuc 10) ∷ (negsuc 9) ∷ (negsuc 8) ∷ []) ∷ []))
    ∷ document (codes "2") (flat (numbers 1 ((pos 9) ∷ (pos 10) ∷ (pos 19) ∷ []) ∷ []))
    ∷ document (codes "3") (flat (words 2 ((codes "none") ∷ []) ∷ []))
    ∷ [])

an_interval_has_its_start_and_not_its_end : shard_answer (search_of query.All ((agg (codes "h") (kind.Histogram 1 10 0 0 no_bounds no_bounds false by_key None) []) ∷ [])) edges
    ≡ result 3 ((keyed (bucket (key.Whole (negsuc 19)) 1 [] ∷ bucket (key.Whole (negsuc 9)) 1 [] ∷ bucket (key.Whole (pos 0)) 1 [] ∷ bucket (key.Whole (pos 10)) 1 [] ∷ [])) ∷ [])
unfolding computing
an_interval_has_its_start_and_not_its_end = refl

-- the key is compared, not the value
hard_bounds_drop_keys : shard_answer (search_of query.All ((agg (codes "h") (kind.Histogram 1 10 0 0 no_bounds (bounds (Some (negsuc 14)) (Some (pos 0))) false by_key None) []) ∷ [])) edges
    ≡ result 3 ((keyed (bucket (key.Whole (negsuc 9)) 1 [] ∷ bucket (key.Whole (pos 0)) 1 [] ∷ [])) ∷ [])
unfolding computing
hard_bounds_drop_keys = refl

extended_bounds_add_no_bucket_in_a_shard : shard_answer (search_of query.All ((agg (codes "h") (kind.Histogram 1 10 0 0 (bounds (Some (negsuc 99)) (Some (pos 100))) no_bounds false by_key None) []) ∷ [])) edges
    ≡ result 3 ((keyed (bucket (key.Whole (negsuc 19)) 1 [] ∷ bucket (key.Whole (negsuc 9)) 1 [] ∷ bucket (key.Whole (pos 0)) 1 [] ∷ bucket (key.Whole (pos 10)) 1 [] ∷ [])) ∷ [])
unfolding computing
extended_bounds_add_no_bucket_in_a_shard = refl

missing_stands_for_a_value : shard_answer (search_of query.All ((agg (codes "h") (kind.Histogram 1 10 0 0 no_bounds no_bounds false by_key (Some (scalar.Whole (pos 37)))) []) ∷ [])) edges
    ≡ result 3 ((keyed (bucket (key.Whole (negsuc 19)) 1 [] ∷ bucket (key.Whole (negsuc 9)) 1 [] ∷ bucket (key.Whole (pos 0)) 1 [] ∷ bucket (key.Whole (pos 10)) 1 [] ∷ bucket (key.Whole (pos 30)) 1 [] ∷ [])) ∷ [])
unfolding computing
missing_stands_for_a_value = refl

a_minimum_of_counts_waits_for_the_whole : shard_answer (search_of query.All ((agg (codes "h") (kind.Histogram 1 10 0 2 no_bounds no_bounds false by_key None) []) ∷ [])) edges
    ≡ result 3 ((keyed (bucket (key.Whole (negsuc 19)) 1 [] ∷ bucket (key.Whole (negsuc 9)) 1 [] ∷ bucket (key.Whole (pos 0)) 1 [] ∷ bucket (key.Whole (pos 10)) 1 [] ∷ [])) ∷ [])
unfolding computing
a_minimum_of_counts_waits_for_the_whole = refl
