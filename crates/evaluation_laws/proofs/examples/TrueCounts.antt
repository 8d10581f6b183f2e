-- True counts at paths of several steps. Fields: 1 is n (long), 2 is t (keyword); below the nested path 0, which is c, 0 is c.k.
use Rattle.std.specs.Prelude.{◌≡◌, refl, pos, false, List, [], ◌∷◌, map, None, codes}
use Rattle.agg_model.specs.declared.key.Key.TheVariants as key
use Rattle.agg_model.specs.declared.query.Query.TheVariants as query
use Rattle.agg_model.specs.declared.aggregation.Kind.TheVariants as kind
use Rattle.agg_model.specs.declared.aggregation.Search.{Search}
use Rattle.agg_evaluation.specs.Rows.{PlacedRow, shard_rows}
use Rattle.agg_evaluation.specs.Keys.{no_bounds}
use Rattle.agg_evaluation.specs.TrueCounts.{answered_rows, true_count, true_key_count}
use Rattle.agg_evaluation.proofs.Computing.{computing}
use Rattle.evaluation_laws.proofs.Samples.{numbers, words, row, flat, nested, document, by_count, by_key, terms, agg, search_of}

abbrev first_shard : List PlacedRow
first_shard = shard_rows
    (document (codes "1") (flat (numbers 1 (pos 1 ∷ []) ∷ words 2 (codes "a" ∷ []) ∷ []))
    ∷ document (codes "2") (flat (numbers 1 (pos 1 ∷ pos 2 ∷ []) ∷ words 2 (codes "a" ∷ codes "b" ∷ []) ∷ []))
    ∷ document (codes "3") (flat (numbers 1 (pos 12 ∷ []) ∷ words 2 (codes "b" ∷ []) ∷ []))
    ∷ [])

abbrev second_shard : List PlacedRow
second_shard = shard_rows
    (document (codes "4") (flat (numbers 1 (pos 1 ∷ []) ∷ words 2 (codes "a" ∷ []) ∷ []))
    ∷ document (codes "5") (flat (numbers 1 (pos 11 ∷ []) ∷ words 2 (codes "a" ∷ []) ∷ []))
    ∷ [])

abbrev shards : List (List PlacedRow)
shards = first_shard ∷ second_shard ∷ []

-- each shard returns one term, and one number below each tenth
abbrev terms_of_tenths : Search
terms_of_tenths = search_of query.All
    (agg (codes "t") (kind.Terms 2 1 1 1 by_count None [] None false)
    (agg (codes "h") (kind.Histogram 1 10 0 1 no_bounds no_bounds false by_key None) (agg (codes "n") (kind.Terms 1 1 1 1 by_count None [] None false) [] ∷ []) ∷ [])
    ∷ [])

two_steps : true_count shards terms_of_tenths ((0, key.Word (codes "a")) ∷ (0, key.Whole (pos 0)) ∷ []) ≡ 3
unfolding computing
two_steps = refl

three_steps : true_count shards terms_of_tenths ((0, key.Word (codes "a")) ∷ (0, key.Whole (pos 0)) ∷ (0, key.Whole (pos 1)) ∷ []) ≡ 3
unfolding computing
three_steps = refl

-- no shard returns it
a_number_that_is_cut : true_count shards terms_of_tenths ((0, key.Word (codes "a")) ∷ (0, key.Whole (pos 0)) ∷ (0, key.Whole (pos 2)) ∷ []) ≡ 1
unfolding computing
a_number_that_is_cut = refl

other_shards_count_less : true_count (second_shard ∷ []) terms_of_tenths ((0, key.Word (codes "a")) ∷ (0, key.Whole (pos 0)) ∷ []) ≡ 1
unfolding computing
other_shards_count_less = refl

keys_below_one_step : true_key_count shards terms_of_tenths ((0, key.Word (codes "a")) ∷ []) 0 ≡ 4
unfolding computing
keys_below_one_step = refl

keys_below_two_steps : true_key_count shards terms_of_tenths ((0, key.Word (codes "a")) ∷ (0, key.Whole (pos 0)) ∷ []) 0 ≡ 4
unfolding computing
keys_below_two_steps = refl

no_aggregation_there : true_key_count shards terms_of_tenths ((0, key.Word (codes "a")) ∷ (1, key.Whole (pos 0)) ∷ []) 0 ≡ 0
unfolding computing
no_aggregation_there = refl

abbrev nested_rows : List PlacedRow
nested_rows = shard_rows
    (document (codes "1") (row (words 2 (codes "x" ∷ []) ∷ []) (nested 0 (flat (words 0 (codes "a" ∷ []) ∷ []) ∷ flat (words 0 (codes "a" ∷ codes "b" ∷ []) ∷ []) ∷ []) ∷ []))
    ∷ document (codes "2") (row (words 2 (codes "y" ∷ []) ∷ []) (nested 0 (flat (words 0 (codes "a" ∷ []) ∷ []) ∷ []) ∷ []))
    ∷ [])

abbrev words_of_nested : Search
words_of_nested = search_of query.All
    (agg (codes "c") (kind.Nested 1) (agg (codes "k") (terms 0) (agg (codes "up") (kind.ReverseNested 0) (agg (codes "t") (terms 2) [] ∷ []) ∷ []) ∷ []) ∷ [])

nested_rows_of_a_word : true_count (nested_rows ∷ []) words_of_nested ((0, key.Fixed 0) ∷ (0, key.Word (codes "a")) ∷ []) ≡ 3
unfolding computing
nested_rows_of_a_word = refl

their_roots : map (λ r. r.id) (answered_rows words_of_nested ((0, key.Fixed 0) ∷ (0, key.Word (codes "a")) ∷ (0, key.Fixed 0) ∷ []) nested_rows) ≡ codes "1" ∷ codes "2" ∷ []
unfolding computing
their_roots = refl
