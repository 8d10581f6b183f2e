-- Buckets counted without building, computed; on small answers the count is that of the built answer.
use Rattle.std.specs.Prelude.{◌≡◌, refl, ℕ, pos, negsuc, false, [], ◌∷◌, Some, None, codes}
use Rattle.agg_model.specs.declared.query.Query.TheVariants as query
use Rattle.agg_model.specs.declared.aggregation.Kind.TheVariants as kind
use Rattle.agg_evaluation.specs.Keys.{no_bounds}
use Rattle.agg_spec.specs.Index.{Index, shard_numbers}
use Rattle.agg_spec.proofs.Samples.{numbers, words, row, index, one_shard, by_count, by_key, agg, leaf, search_of}
use Rattle.agg_model.specs.declared.aggregation.Search.{Search}
use Rattle.agg_evaluation.specs.Whole.{whole}
use Rattle.agg_spec.specs.Outcome.{shard_answers, answer_of}
use Rattle.agg_spec.specs.BucketCount.{total_buckets}
use Rattle.agg_spec.specs.GapCount.{planned_buckets}
use Rattle.agg_spec.proofs.Computing.{computing}

abbrev planned : Index → Search → ℕ
planned index search = planned_buckets search (whole search (shard_answers index search (shard_numbers index)))

abbrev built : Index → Search → ℕ
built index search = total_buckets search (answer_of index search (shard_numbers index))

abbrev far_apart : Index
far_apart = one_shard (row (numbers (pos 0 ∷ []) ∷ []) ∷ row (numbers (pos 10000000000 ∷ []) ∷ []) ∷ [])

ten_thousand_million_gaps : planned far_apart (search_of query.All (leaf (codes "h") (kind.Histogram 1 1 0 0 no_bounds no_bounds false by_key None) ∷ [])) ≡ 10000000001
unfolding computing
ten_thousand_million_gaps = refl

abbrev three_numbers : Index
three_numbers = one_shard (row (numbers (negsuc 0 ∷ []) ∷ []) ∷ row (numbers (pos 0 ∷ []) ∷ []) ∷ row (numbers (pos 25 ∷ []) ∷ []) ∷ [])

abbrev no_numbers : Index
no_numbers = one_shard (row (words (codes "a" ∷ []) ∷ []) ∷ [])

abbrev gaps_search : Search
gaps_search = search_of query.All (leaf (codes "h") (kind.Histogram 1 10 0 0 no_bounds no_bounds false by_key None) ∷ [])

gaps : planned three_numbers gaps_search ≡ 4
unfolding computing
gaps = refl

gaps_built : built three_numbers gaps_search ≡ 4
unfolding computing
gaps_built = refl

abbrev gaps_with_children_search : Search
gaps_with_children_search = search_of query.All (agg (codes "h") (kind.Histogram 1 10 0 0 no_bounds no_bounds false by_key None) (leaf (codes "f") (kind.Filters None (query.All ∷ query.Exists 1 ∷ []) None) ∷ []) ∷ [])

gaps_with_children : planned three_numbers gaps_with_children_search ≡ 12
unfolding computing
gaps_with_children = refl

gaps_with_children_built : built three_numbers gaps_with_children_search ≡ 12
unfolding computing
gaps_with_children_built = refl

abbrev both_bounds_widened_search : Search
both_bounds_widened_search = search_of query.All (agg (codes "h") (kind.Histogram 1 10 3 0 (record { min = Some (negsuc 24); max = Some (pos 39) }) no_bounds false by_key None) (leaf (codes "f") (kind.Filters None (query.All ∷ query.Exists 1 ∷ []) None) ∷ []) ∷ [])

both_bounds_widened : planned three_numbers both_bounds_widened_search ≡ 21
unfolding computing
both_bounds_widened = refl

both_bounds_widened_built : built three_numbers both_bounds_widened_search ≡ 21
unfolding computing
both_bounds_widened_built = refl

abbrev hard_bounds_that_cut_search : Search
hard_bounds_that_cut_search = search_of query.All (agg (codes "h") (kind.Histogram 1 10 0 0 (record { min = Some (negsuc 14); max = Some (pos 15) }) (record { min = Some (negsuc 14); max = Some (pos 15) }) false by_key None) (leaf (codes "f") (kind.Filters None (query.All ∷ query.Exists 1 ∷ []) None) ∷ []) ∷ [])

hard_bounds_that_cut : planned three_numbers hard_bounds_that_cut_search ≡ 9
unfolding computing
hard_bounds_that_cut = refl

hard_bounds_that_cut_built : built three_numbers hard_bounds_that_cut_search ≡ 9
unfolding computing
hard_bounds_that_cut_built = refl

abbrev no_bucket_search : Search
no_bucket_search = search_of query.All (agg (codes "h") (kind.Histogram 1 10 0 0 (record { min = Some (pos 0); max = None }) no_bounds false by_key None) (leaf (codes "f") (kind.Filters None (query.All ∷ query.Exists 1 ∷ []) None) ∷ []) ∷ [])

no_bucket : planned no_numbers no_bucket_search ≡ 0
unfolding computing
no_bucket = refl

no_bucket_built : built no_numbers no_bucket_search ≡ 0
unfolding computing
no_bucket_built = refl

abbrev empty_buckets_alone_search : Search
empty_buckets_alone_search = search_of query.All (agg (codes "h") (kind.Histogram 1 10 0 0 (record { min = Some (pos 0); max = Some (pos 20) }) no_bounds false by_key None) (leaf (codes "f") (kind.Filters None (query.All ∷ query.Exists 1 ∷ []) None) ∷ []) ∷ [])

empty_buckets_alone : planned no_numbers empty_buckets_alone_search ≡ 9
unfolding computing
empty_buckets_alone = refl

empty_buckets_alone_built : built no_numbers empty_buckets_alone_search ≡ 9
unfolding computing
empty_buckets_alone_built = refl

abbrev minimum_count_search : Search
minimum_count_search = search_of query.All (agg (codes "h") (kind.Histogram 1 50 10 2 no_bounds no_bounds false by_key None) (leaf (codes "f") (kind.Filters None (query.All ∷ query.Exists 1 ∷ []) None) ∷ []) ∷ [])

minimum_count : planned three_numbers minimum_count_search ≡ 3
unfolding computing
minimum_count = refl

minimum_count_built : built three_numbers minimum_count_search ≡ 3
unfolding computing
minimum_count_built = refl

abbrev terms_and_single_buckets_search : Search
terms_and_single_buckets_search = search_of query.All (agg (codes "g") kind.Global (agg (codes "t") (kind.Terms 1 2 13 1 by_count None [] None false) (leaf (codes "m") (kind.Missing 2) ∷ []) ∷ []) ∷ [])

terms_and_single_buckets : planned three_numbers terms_and_single_buckets_search ≡ 2
unfolding computing
terms_and_single_buckets = refl

terms_and_single_buckets_built : built three_numbers terms_and_single_buckets_search ≡ 2
unfolding computing
terms_and_single_buckets_built = refl
