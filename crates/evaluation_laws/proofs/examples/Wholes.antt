-- What several shards answer together. Fields: 0 is b (boolean), 1 is n (long), 2 is t (keyword).
use Rattle.std.specs.Prelude.{◌≡◌, refl, pos, negsuc, true, false, List, [], ◌∷◌, map, Some, None, codes}
use Rattle.agg_model.specs.declared.key.Key.TheVariants as key
use Rattle.agg_model.specs.declared.query.Query.TheVariants as query
use Rattle.agg_model.specs.declared.query.Probe.TheVariants as probe
use Rattle.agg_model.specs.declared.aggregation.Kind.TheVariants as kind
use Rattle.agg_model.specs.declared.partial.Node.TheVariants.{Keyed, Fixed}
use Rattle.agg_evaluation.specs.Rows.{PlacedRow, shard_rows}
use Rattle.agg_evaluation.specs.Keys.{no_bounds}
use Rattle.agg_evaluation.specs.Shard.{shard_answer}
use Rattle.agg_evaluation.specs.Whole.{whole}
use Rattle.agg_evaluation.specs.TrueCounts.{true_count, true_key_count}
use Rattle.agg_evaluation.specs.Trees.{is_result_of, numbers_fit}
use Rattle.agg_evaluation.proofs.Computing.{computing}
use Rattle.evaluation_laws.proofs.Samples.{numbers, words, flat, document, by_count, by_key, terms, agg, search_of, bucket, covered_bucket, keyed, metric, result}
use Rattle.agg_model.specs.declared.aggregation.Search.{Search}
use Rattle.agg_model.specs.declared.partial.Partial.{Partial}

abbrev shards_answer : Search → List (List PlacedRow) → Partial
shards_answer search shards = whole search (map (shard_answer search) shards)

abbrev three_of_a : List PlacedRow
three_of_a = shard_rows
    (document (codes "1") (flat (words 2 ((codes "a") ∷ []) ∷ []))
    ∷ document (codes "2") (flat (words 2 ((codes "a") ∷ []) ∷ []))
    ∷ document (codes "3") (flat (words 2 ((codes "a") ∷ []) ∷ []))
    ∷ document (codes "4") (flat (words 2 ((codes "b") ∷ []) ∷ []))
    ∷ document (codes "5") (flat (words 2 ((codes "b") ∷ []) ∷ []))
    ∷ [])

abbrev three_of_b : List PlacedRow
three_of_b = shard_rows
    (document (codes "1") (flat (words 2 ((codes "b") ∷ []) ∷ []))
    ∷ document (codes "2") (flat (words 2 ((codes "b") ∷ []) ∷ []))
    ∷ document (codes "3") (flat (words 2 ((codes "b") ∷ []) ∷ []))
    ∷ document (codes "4") (flat (words 2 ((codes "a") ∷ []) ∷ []))
    ∷ [])

abbrev some_numbers : List PlacedRow
some_numbers = shard_rows
    (document (codes "1") (flat (numbers 1 ((pos 5) ∷ (pos 7) ∷ []) ∷ words 2 ((codes "b") ∷ []) ∷ []))
    ∷ document (codes "2") (flat (numbers 1 ((negsuc 3) ∷ []) ∷ []))
    ∷ [])

-- what a shard returned it covers with its own error
each_shard_keeps_its_first_term : shards_answer (search_of query.All ((agg (codes "t") (kind.Terms 2 1 1 1 by_count None [] None false) []) ∷ [])) (three_of_a ∷ three_of_b ∷ [])
    ≡ result 9 ((Keyed (covered_bucket (key.Word (codes "a")) 3 3 [] ∷ covered_bucket (key.Word (codes "b")) 3 3 [] ∷ []) 6 2 3) ∷ [])
unfolding computing
each_shard_keeps_its_first_term = refl

order_of_the_shards_does_not_matter : shards_answer (search_of query.All ((agg (codes "t") (kind.Terms 2 1 1 1 by_count None [] None false) []) ∷ [])) (three_of_b ∷ three_of_a ∷ [])
    ≡ result 9 ((Keyed (covered_bucket (key.Word (codes "a")) 3 3 [] ∷ covered_bucket (key.Word (codes "b")) 3 3 [] ∷ []) 6 2 3) ∷ [])
unfolding computing
order_of_the_shards_does_not_matter = refl

no_shard_answers_nothing : shards_answer (search_of query.All ((agg (codes "f") (kind.Filters None (query.All ∷ []) (Some (codes "_other_"))) ((agg (codes "s") (kind.Sum 1 None) []) ∷ [])) ∷ (agg (codes "t") (terms 2) []) ∷ [])) []
    ≡ result 0 ((Fixed (bucket (key.Fixed 0) 0 ((metric 0 (pos 0) None None) ∷ []) ∷ bucket (key.Fixed 1) 0 ((metric 0 (pos 0) None None) ∷ []) ∷ [])) ∷ (keyed []) ∷ [])
unfolding computing
no_shard_answers_nothing = refl

children_are_united_by_key : shards_answer (search_of query.All ((agg (codes "t") (terms 2) ((agg (codes "m") (kind.Min 1 None) []) ∷ (agg (codes "s") (kind.Sum 1 None) []) ∷ [])) ∷ [])) (three_of_a ∷ some_numbers ∷ three_of_b ∷ [])
    ≡ result 11 ((keyed (bucket (key.Word (codes "a")) 4 ((metric 0 (pos 0) None None) ∷ (metric 0 (pos 0) None None) ∷ []) ∷ bucket (key.Word (codes "b")) 6 ((metric 2 (pos 12) (Some (pos 5)) (Some (pos 7))) ∷ (metric 2 (pos 12) (Some (pos 5)) (Some (pos 7))) ∷ []) ∷ [])) ∷ [])
unfolding computing
children_are_united_by_key = refl

buckets_from_the_start_stay : shards_answer (search_of query.All ((agg (codes "f") (kind.Filters None ((query.Term 2 (probe.Word (codes "a"))) ∷ (query.Term 1 (probe.Whole (pos 7))) ∷ []) None) ((agg (codes "h") (kind.Histogram 1 10 0 0 no_bounds no_bounds false by_key None) []) ∷ [])) ∷ [])) (some_numbers ∷ three_of_b ∷ [])
    ≡ result 6 ((Fixed (bucket (key.Fixed 0) 1 ((keyed []) ∷ []) ∷ bucket (key.Fixed 1) 1 ((keyed (bucket (key.Whole (pos 0)) 1 [] ∷ [])) ∷ []) ∷ [])) ∷ [])
unfolding computing
buckets_from_the_start_stay = refl

-- the whole has 3, and an error of 3
true_count_of_a : true_count (three_of_a ∷ three_of_b ∷ []) (search_of query.All ((agg (codes "t") (kind.Terms 2 1 1 1 by_count None [] None false) []) ∷ [])) ((0, key.Word (codes "a")) ∷ [])
    ≡ 4
unfolding computing
true_count_of_a = refl

all_keys_of_both_shards : true_key_count (three_of_a ∷ three_of_b ∷ []) (search_of query.All ((agg (codes "t") (kind.Terms 2 1 1 1 by_count None [] None false) []) ∷ [])) [] 0
    ≡ 9
unfolding computing
all_keys_of_both_shards = refl

the_shard_answer_is_a_result : is_result_of (search_of query.All ((agg (codes "t") (kind.Terms 2 1 1 1 by_count None [] None false) []) ∷ [])) (shard_answer (search_of query.All ((agg (codes "t") (kind.Terms 2 1 1 1 by_count None [] None false) []) ∷ [])) three_of_a)
    ≡ true
unfolding computing
the_shard_answer_is_a_result = refl

another_searchs_answer_is_no_result : is_result_of (search_of query.All ((agg (codes "t") (kind.Terms 2 1 1 1 by_count None [] None false) []) ∷ [])) (shard_answer (search_of query.All ((agg (codes "t") (kind.Sum 1 None) []) ∷ [])) three_of_a)
    ≡ false
unfolding computing
another_searchs_answer_is_no_result = refl

small_numbers_fit : numbers_fit (shard_answer (search_of query.All ((agg (codes "t") (kind.Terms 2 1 1 1 by_count None [] None false) []) ∷ [])) three_of_a)
    ≡ true
unfolding computing
small_numbers_fit = refl

a_sum_of_2_to_the_127_does_not_fit : numbers_fit (result 2 (metric 2 (pos 170141183460469231731687303715884105728) None None ∷ []))
    ≡ false
unfolding computing
a_sum_of_2_to_the_127_does_not_fit = refl
