-- Terms aggregations of one shard. Fields: 0 is b (boolean), 1 is n (long), 2 is t (keyword).
use Rattle.std.specs.Prelude.{◌≡◌, refl, pos, negsuc, true, false, List, [], ◌∷◌, Some, None, codes}
use Rattle.agg_model.specs.declared.key.Key.TheVariants as key
use Rattle.agg_model.specs.declared.row.Scalar.TheVariants as scalar
use Rattle.agg_model.specs.declared.query.Query.TheVariants as query
use Rattle.agg_model.specs.declared.query.Probe.TheVariants as probe
use Rattle.agg_model.specs.declared.aggregation.Kind.TheVariants as kind
use Rattle.agg_model.specs.declared.aggregation.OrderBy.TheVariants as by
use Rattle.agg_model.specs.declared.partial.Node.TheVariants.{Keyed}
use Rattle.agg_evaluation.specs.Rows.{PlacedRow, shard_rows}
use Rattle.agg_evaluation.specs.Shard.{shard_answer}
use Rattle.agg_evaluation.proofs.Computing.{computing}
use Rattle.evaluation_laws.proofs.Samples.{numbers, words, flags, flat, document, order, by_count, by_key, terms, agg, search_of, bucket, covered_bucket, keyed, metric, result}

abbrev three_of_a : List PlacedRow
three_of_a = shard_rows
    (document (codes "1") (flat (words 2 ((codes "a") ∷ []) ∷ []))
    ∷ document (codes "2") (flat (words 2 ((codes "a") ∷ []) ∷ []))
    ∷ document (codes "3") (flat (words 2 ((codes "a") ∷ []) ∷ []))
    ∷ document (codes "4") (flat (words 2 ((codes "b") ∷ []) ∷ []))
    ∷ document (codes "5") (flat (words 2 ((codes "b") ∷ []) ∷ []))
    ∷ [])

abbrev three_of_b : List PlacedRow
three_of_b = shard_rows
    (document (codes "1") (flat (words 2 ((codes "b") ∷ []) ∷ []))
    ∷ document (codes "2") (flat (words 2 ((codes "b") ∷ []) ∷ []))
    ∷ document (codes "3") (flat (words 2 ((codes "b") ∷ []) ∷ []))
    ∷ document (codes "4") (flat (words 2 ((codes "a") ∷ []) ∷ []))
    ∷ [])

first_shard_keeps_a : shard_answer (search_of query.All ((agg (codes "t") (kind.Terms 2 1 1 1 by_count None [] None true) []) ∷ [])) three_of_a
    ≡ result 5 ((Keyed (covered_bucket (key.Word (codes "a")) 3 3 [] ∷ []) 3 1 2) ∷ [])
unfolding computing
first_shard_keeps_a = refl

second_shard_keeps_b : shard_answer (search_of query.All ((agg (codes "t") (kind.Terms 2 1 1 1 by_count None [] None true) []) ∷ [])) three_of_b
    ≡ result 4 ((Keyed (covered_bucket (key.Word (codes "b")) 3 3 [] ∷ []) 3 1 1) ∷ [])
unfolding computing
second_shard_keeps_b = refl

by_key_the_second_shard_keeps_a : shard_answer (search_of query.All ((agg (codes "t") (kind.Terms 2 1 1 1 by_key None [] None false) []) ∷ [])) three_of_b
    ≡ result 4 ((Keyed (covered_bucket (key.Word (codes "a")) 1 1 [] ∷ []) 1 1 3) ∷ [])
unfolding computing
by_key_the_second_shard_keeps_a = refl

by_rising_count_the_first_shard_keeps_b : shard_answer (search_of query.All ((agg (codes "t") (kind.Terms 2 1 1 1 (order by.Count false ∷ []) None [] None false) []) ∷ [])) three_of_a
    ≡ result 5 ((Keyed (covered_bucket (key.Word (codes "b")) 2 2 [] ∷ []) 2 1 3) ∷ [])
unfolding computing
by_rising_count_the_first_shard_keeps_b = refl

nothing_is_cut_at_the_usual_shard_size : shard_answer (search_of query.All ((agg (codes "t") (terms 2) []) ∷ [])) three_of_a
    ≡ result 5 ((keyed (bucket (key.Word (codes "a")) 3 [] ∷ bucket (key.Word (codes "b")) 2 [] ∷ [])) ∷ [])
unfolding computing
nothing_is_cut_at_the_usual_shard_size = refl

abbrev five : List PlacedRow
five = shard_rows
    (document (codes "1") (flat (words 2 ((codes "a") ∷ []) ∷ []))
    ∷ document (codes "2") (flat (words 2 ((codes "b") ∷ []) ∷ []))
    ∷ document (codes "3") (flat (words 2 ((codes "c") ∷ []) ∷ []))
    ∷ document (codes "4") (flat (words 2 ((codes "d") ∷ []) ∷ []))
    ∷ document (codes "5") (flat (words 2 ((codes "e") ∷ []) ∷ []))
    ∷ [])

-- a shard size below the size is raised to it when the request is read
exactly_as_many_terms_as_asked_for : shard_answer (search_of query.All ((agg (codes "t") (kind.Terms 2 4 4 1 by_count None [] None false) []) ∷ [])) five
    ≡ result 5 ((Keyed (covered_bucket (key.Word (codes "a")) 1 1 [] ∷ covered_bucket (key.Word (codes "b")) 1 1 [] ∷ covered_bucket (key.Word (codes "c")) 1 1 [] ∷ covered_bucket (key.Word (codes "d")) 1 1 [] ∷ []) 1 1 1) ∷ [])
unfolding computing
exactly_as_many_terms_as_asked_for = refl

abbrev repeats : List PlacedRow
repeats = shard_rows
    (document (codes "1") (flat (numbers 1 ((pos 5) ∷ (pos 5) ∷ []) ∷ words 2 ((codes "a") ∷ (codes "b") ∷ []) ∷ []))
    ∷ [])

-- but numbers keep their repeats for metrics
equal_values_of_a_row_count_once : shard_answer (search_of query.All ((agg (codes "n") (terms 1) []) ∷ (agg (codes "s") (kind.Sum 1 None) []) ∷ (agg (codes "u") (terms 2) []) ∷ (agg (codes "v") (kind.ValueCount 2 None) []) ∷ (agg (codes "w") (kind.ValueCount 1 None) []) ∷ [])) repeats
    ≡ result 1 ((keyed (bucket (key.Whole (pos 5)) 1 [] ∷ [])) ∷ (metric 2 (pos 10) (Some (pos 5)) (Some (pos 5))) ∷ (keyed (bucket (key.Word (codes "a")) 1 [] ∷ bucket (key.Word (codes "b")) 1 [] ∷ [])) ∷ (metric 2 (pos 0) None None) ∷ (metric 2 (pos 10) (Some (pos 5)) (Some (pos 5))) ∷ [])
unfolding computing
equal_values_of_a_row_count_once = refl

abbrev mixed : List PlacedRow
mixed = shard_rows
    (document (codes "1") (flat (numbers 1 ((pos 3) ∷ []) ∷ words 2 ((codes "a") ∷ (codes "b") ∷ []) ∷ []))
    ∷ document (codes "2") (flat (numbers 1 ((pos 1) ∷ []) ∷ words 2 ((codes "b") ∷ []) ∷ []))
    ∷ document (codes "3") (flat (flags 0 (true ∷ []) ∷ numbers 1 ((negsuc 1) ∷ []) ∷ []))
    ∷ document (codes "4") (flat (flags 0 (false ∷ []) ∷ words 2 ((codes "c") ∷ []) ∷ []))
    ∷ [])

include_keeps_the_listed_keys : shard_answer (search_of query.All ((agg (codes "t") (kind.Terms 2 10 25 1 by_count (Some ((probe.Word (codes "b")) ∷ (probe.Word (codes "z")) ∷ [])) [] None false) []) ∷ [])) mixed
    ≡ result 4 ((keyed (bucket (key.Word (codes "b")) 2 [] ∷ [])) ∷ [])
unfolding computing
include_keeps_the_listed_keys = refl

include_of_no_key_keeps_none : shard_answer (search_of query.All ((agg (codes "t") (kind.Terms 2 10 25 1 by_count (Some []) [] None false) []) ∷ [])) mixed
    ≡ result 4 ((keyed []) ∷ [])
unfolding computing
include_of_no_key_keeps_none = refl

exclude_drops_the_listed_keys : shard_answer (search_of query.All ((agg (codes "t") (kind.Terms 2 10 25 1 by_count None ((probe.Word (codes "b")) ∷ []) None false) []) ∷ [])) mixed
    ≡ result 4 ((keyed (bucket (key.Word (codes "a")) 1 [] ∷ bucket (key.Word (codes "c")) 1 [] ∷ [])) ∷ [])
unfolding computing
exclude_drops_the_listed_keys = refl

exclude_drops_what_include_keeps : shard_answer (search_of query.All ((agg (codes "t") (kind.Terms 2 10 25 1 by_count (Some ((probe.Word (codes "a")) ∷ (probe.Word (codes "b")) ∷ [])) ((probe.Word (codes "b")) ∷ []) None false) []) ∷ [])) mixed
    ≡ result 4 ((keyed (bucket (key.Word (codes "a")) 1 [] ∷ [])) ∷ [])
unfolding computing
exclude_drops_what_include_keeps = refl

missing_stands_for_no_value : shard_answer (search_of query.All ((agg (codes "t") (kind.Terms 2 10 25 1 by_count None [] (Some (scalar.Word (codes "b"))) false) []) ∷ [])) mixed
    ≡ result 4 ((keyed (bucket (key.Word (codes "a")) 1 [] ∷ bucket (key.Word (codes "b")) 3 [] ∷ bucket (key.Word (codes "c")) 1 [] ∷ [])) ∷ [])
unfolding computing
missing_stands_for_no_value = refl

missing_goes_through_exclude : shard_answer (search_of query.All ((agg (codes "t") (kind.Terms 2 10 25 1 by_count None ((probe.Word (codes "n")) ∷ []) (Some (scalar.Word (codes "n"))) false) []) ∷ [])) mixed
    ≡ result 4 ((keyed (bucket (key.Word (codes "a")) 1 [] ∷ bucket (key.Word (codes "b")) 2 [] ∷ bucket (key.Word (codes "c")) 1 [] ∷ [])) ∷ [])
unfolding computing
missing_goes_through_exclude = refl

missing_goes_through_include : shard_answer (search_of query.All ((agg (codes "t") (kind.Terms 2 10 25 1 by_count (Some ((probe.Word (codes "a")) ∷ [])) [] (Some (scalar.Word (codes "n"))) false) []) ∷ [])) mixed
    ≡ result 4 ((keyed (bucket (key.Word (codes "a")) 1 [] ∷ [])) ∷ [])
unfolding computing
missing_goes_through_include = refl

flags_are_keys : shard_answer (search_of query.All ((agg (codes "b") (kind.Terms 0 10 25 1 by_count None [] (Some (scalar.Flag true)) false) []) ∷ [])) mixed
    ≡ result 4 ((keyed (bucket (key.Flag false) 1 [] ∷ bucket (key.Flag true) 3 [] ∷ [])) ∷ [])
unfolding computing
flags_are_keys = refl

order_by_a_child_puts_null_last : shard_answer (search_of query.All ((agg (codes "t") (kind.Terms 2 2 2 1 (order (by.Child 0) true ∷ []) None [] None false) ((agg (codes "low") (kind.Min 1 None) []) ∷ [])) ∷ [])) mixed
    ≡ result 4 ((Keyed (covered_bucket (key.Word (codes "a")) 1 2 ((metric 1 (pos 3) (Some (pos 3)) (Some (pos 3))) ∷ []) ∷ covered_bucket (key.Word (codes "b")) 2 2 ((metric 2 (pos 4) (Some (pos 1)) (Some (pos 3))) ∷ []) ∷ []) 2 1 1) ∷ [])
unfolding computing
order_by_a_child_puts_null_last = refl

orders_are_tried_in_turn : shard_answer (search_of query.All ((agg (codes "t") (kind.Terms 2 2 2 1 (order by.Count false ∷ order (by.Child 0) true ∷ []) None [] None false) ((agg (codes "s") (kind.Sum 1 None) []) ∷ [])) ∷ [])) mixed
    ≡ result 4 ((Keyed (covered_bucket (key.Word (codes "a")) 1 1 ((metric 1 (pos 3) (Some (pos 3)) (Some (pos 3))) ∷ []) ∷ covered_bucket (key.Word (codes "c")) 1 1 ((metric 0 (pos 0) None None) ∷ []) ∷ []) 1 1 2) ∷ [])
unfolding computing
orders_are_tried_in_turn = refl

-- a shard keeps also the keys with fewer rows
minimum_of_counts_waits_for_the_whole : shard_answer (search_of query.All ((agg (codes "t") (kind.Terms 2 10 25 2 by_count None [] None false) []) ∷ [])) mixed
    ≡ result 4 ((keyed (bucket (key.Word (codes "a")) 1 [] ∷ bucket (key.Word (codes "b")) 2 [] ∷ bucket (key.Word (codes "c")) 1 [] ∷ [])) ∷ [])
unfolding computing
minimum_of_counts_waits_for_the_whole = refl

terms_below_terms : shard_answer (search_of (query.Exists 2) ((agg (codes "t") (kind.Terms 2 1 1 1 by_count None [] None false) ((agg (codes "n") (kind.Terms 1 1 1 1 by_count None [] None false) []) ∷ [])) ∷ [])) mixed
    ≡ result 3 ((Keyed (covered_bucket (key.Word (codes "b")) 2 2 ((Keyed (covered_bucket (key.Whole (pos 1)) 1 1 [] ∷ []) 1 1 1) ∷ []) ∷ []) 2 1 2) ∷ [])
unfolding computing
terms_below_terms = refl
