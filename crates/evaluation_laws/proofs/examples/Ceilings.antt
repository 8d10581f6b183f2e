-- The ceilings of tasks and searches. Fields: 0 is b (boolean), 1 is n (long), 2 is t (keyword).
use Rattle.std.specs.Prelude.{◌≡◌, refl, pos, true, false, List, [], ◌∷◌, map, Some, None, codes}
use Rattle.agg_model.specs.declared.row.Scalar.TheVariants as scalar
use Rattle.agg_model.specs.declared.query.Query.TheVariants as query
use Rattle.agg_model.specs.declared.query.Probe.TheVariants as probe
use Rattle.agg_model.specs.declared.aggregation.Kind.TheVariants as kind
use Rattle.agg_evaluation.specs.Rows.{PlacedRow, shard_rows}
use Rattle.agg_evaluation.specs.Keys.{no_bounds}
use Rattle.agg_evaluation.specs.Ceiling.{ceiling, search_ceiling}
use Rattle.agg_evaluation.proofs.Computing.{computing}
use Rattle.evaluation_laws.proofs.Samples.{numbers, words, flat, document, by_count, by_key, source, terms, agg, search_of}
use Rattle.std.specs.Prelude.{◌+◌, ◌/◌, ◌%◌}
use Rattle.std.specs.List.{range_with_len}
use Rattle.agg_model.specs.declared.mapping.FieldKind.{FieldKind}
use Rattle.agg_model.specs.declared.mapping.FieldKind.TheVariants.{Keyword, Long, Boolean, Date}

abbrev none : List PlacedRow
none = shard_rows
    ([])

abbrev a_and_b : List PlacedRow
a_and_b = shard_rows
    (document (codes "1") (flat (words 2 ((codes "a") ∷ []) ∷ []))
    ∷ document (codes "2") (flat (words 2 ((codes "b") ∷ []) ∷ []))
    ∷ [])

abbrev documents : List PlacedRow
documents = shard_rows
    (document (codes "1") (flat (numbers 1 ((pos 1) ∷ (pos 2) ∷ []) ∷ words 2 ((codes "p") ∷ (codes "qqq") ∷ []) ∷ []))
    ∷ document (codes "2") (flat (numbers 1 ((pos 2) ∷ []) ∷ words 2 ((codes "z") ∷ []) ∷ []))
    ∷ document (codes "3") (flat (numbers 1 ((pos 3) ∷ (pos 4) ∷ (pos 5) ∷ []) ∷ []))
    ∷ [])

abbrev kinds : List FieldKind
kinds = Boolean ∷ Long ∷ Keyword ∷ []

of_no_document : ceiling kinds (search_of query.All ((agg (codes "t") (terms 2) []) ∷ [])) none
    ≡ (Some 9216)
unfolding computing
of_no_document = refl

of_two_words : ceiling kinds (search_of query.All ((agg (codes "t") (terms 2) []) ∷ [])) a_and_b
    ≡ (Some 9732)
unfolding computing
of_two_words = refl

missing_may_be_the_longest_word : ceiling kinds (search_of query.All ((agg (codes "t") (kind.Terms 2 10 25 1 by_count None [] (Some (scalar.Word (codes "missing"))) false) []) ∷ [])) documents
    ≡ (Some 10296)
unfolding computing
missing_may_be_the_longest_word = refl

keys_of_dates_have_8_bytes : ceiling (Boolean ∷ Date ∷ Keyword ∷ []) (search_of query.All ((agg (codes "d") (terms 1) []) ∷ [])) documents
    ≡ (Some 10848)
unfolding computing
keys_of_dates_have_8_bytes = refl

keys_of_children_multiply : ceiling kinds (search_of query.All ((agg (codes "n") (terms 1) ((agg (codes "h") (kind.Histogram 1 10 0 0 no_bounds no_bounds false by_key None) []) ∷ (agg (codes "s") (kind.Sum 1 None) []) ∷ (agg (codes "t") (terms 2) []) ∷ [])) ∷ [])) documents
    ≡ (Some 32222)
unfolding computing
keys_of_children_multiply = refl

-- but a key below counts only with the filters that match its row
filters_hold_all_their_buckets : ceiling kinds (search_of query.All ((agg (codes "f") (kind.Filters None ((query.Exists 2) ∷ (query.Term 1 (probe.Whole (pos 2))) ∷ []) (Some (codes "_other_"))) ((agg (codes "t") (terms 2) []) ∷ [])) ∷ [])) documents
    ≡ (Some 14628)
unfolding computing
filters_hold_all_their_buckets = refl

composite_counts_null_as_one_byte : ceiling kinds (search_of query.All ((agg (codes "c") (kind.Composite (source (codes "k") 2 None false true ∷ source (codes "b") 0 None false true ∷ source (codes "m") 1 (Some 2) false false ∷ []) 10 None) []) ∷ [])) documents
    ≡ (Some 11274)
unfolding computing
composite_counts_null_as_one_byte = refl

global_counts_all_roots : ceiling kinds (search_of (query.Term 2 (probe.Word (codes "z"))) ((agg (codes "g") kind.Global ((agg (codes "t") (terms 2) []) ∷ [])) ∷ (agg (codes "t") (terms 2) []) ∷ [])) documents
    ≡ (Some 12568)
unfolding computing
global_counts_all_roots = refl

of_a_search_over_two_shards : search_ceiling kinds (search_of query.All ((agg (codes "t") (terms 2) []) ∷ [])) (none ∷ a_and_b ∷ [])
    ≡ (Some 18948)
unfolding computing
of_a_search_over_two_shards = refl

-- one document with 300 words and 300 numbers
abbrev three_hundred : List PlacedRow
three_hundred = shard_rows
    (document (codes "1") (flat (
    numbers 1 (map pos (range_with_len 0 300))
    ∷ words 2 (map (λ i. (48 + i / 100) ∷ (48 + (i / 10) % 10) ∷ (48 + i % 10) ∷ []) (range_with_len 0 300)) ∷ []))
    ∷ [])

-- 90,000 combinations
too_many_combinations_are_too_wide : ceiling kinds (search_of query.All ((agg (codes "c") (kind.Composite (source (codes "k") 2 None false false ∷ source (codes "m") 1 None false false ∷ []) 2 None) []) ∷ [])) three_hundred
    ≡ None
unfolding computing
too_many_combinations_are_too_wide = refl

-- one document with 1,024 numbers
abbrev a_thousand : List PlacedRow
a_thousand = shard_rows (document (codes "1") (flat (numbers 1 (map pos (range_with_len 0 1024)) ∷ [])) ∷ [])

five_levels_of_many_terms_are_too_wide : ceiling kinds (search_of query.All ((agg (codes "a") (terms 1) ((agg (codes "b") (terms 1) ((agg (codes "c") (terms 1) ((agg (codes "d") (terms 1) ((agg (codes "e") (terms 1) []) ∷ [])) ∷ [])) ∷ [])) ∷ [])) ∷ [])) a_thousand
    ≡ None
unfolding computing
five_levels_of_many_terms_are_too_wide = refl
