-- The premises of the laws, met and missed. Field 2 is t, a keyword, and 1 is n, a long.
use Rattle.std.specs.Prelude.{◌≡◌, refl, pos, true, false, List, [], ◌∷◌, map, None, Some, codes}
use Rattle.agg_model.specs.declared.key.Key.TheVariants as key
use Rattle.agg_model.specs.declared.query.Query.TheVariants as query
use Rattle.agg_model.specs.declared.aggregation.Kind.TheVariants as kind
use Rattle.agg_model.specs.declared.aggregation.Search.{Search}
use Rattle.agg_evaluation.specs.Rows.{PlacedRow, shard_rows}
use Rattle.agg_evaluation.specs.TrueCounts.{true_count}
use Rattle.agg_evaluation.specs.Whole.{parts}
use Rattle.agg_evaluation.proofs.Computing.{computing}
use Rattle.evaluation_laws.proofs.Samples.{numbers, words, flat, document, bounds, by_count, by_key, agg, search_of, source}
use Rattle.count_laws.specs.CompositeGroups.{answered_groups, composite_groups}
use Rattle.agg_spec.specs.Pages.{search_after}
use Rattle.count_laws.specs.Scans.{page_groups}
use Rattle.count_laws.specs.Paths.{answer_of_shards, is_uncut, whole_of_shards}
use Rattle.count_laws.specs.ReturnedPaths.{answers_at, is_returned, shows_all}
use Rattle.count_laws.specs.TermsSums.{other_count, returned_count}

-- what unfolds in an answer, beside the rest
unfoldable answering : Unit {0}
unfolding
    computing
    Rattle.agg_model.specs.declared.answer.BucketAnswer.TheViews.out-NodeAnswer Rattle.agg_model.specs.declared.answer.BucketAnswer.TheViews.out-BucketAnswer
    Rattle.agg_model.specs.declared.answer.BucketAnswer.TheBlock.shown-the_row-BucketAnswer-1
answering = tt

abbrev both : List PlacedRow
both = shard_rows (document (codes "1") (flat (numbers 1 (pos 4 ∷ []) ∷ words 2 (codes "x" ∷ codes "y" ∷ []) ∷ [])) ∷ [])

abbrev only_y : List PlacedRow
only_y = shard_rows (document (codes "2") (flat (numbers 1 (pos 5 ∷ []) ∷ words 2 (codes "y" ∷ []) ∷ [])) ∷ [])

abbrev shards : List (List PlacedRow)
shards = both ∷ only_y ∷ []

-- pages of one group, and terms below each
abbrev pages_of_one : Search
pages_of_one = search_of query.All (agg (codes "c") (kind.Composite (source (codes "t") 2 None false false ∷ []) 1 None) (agg (codes "n") (kind.Terms 1 1 1 1 by_count None [] None false) [] ∷ []) ∷ [])

-- the first shard returns x and the second y
x_is_returned : is_uncut pages_of_one.aggs (whole_of_shards pages_of_one shards).nodes ((0, key.Many (key.Word (codes "x") ∷ [])) ∷ []) ≡ true
unfolding answering
x_is_returned = refl

y_is_not : is_uncut pages_of_one.aggs (whole_of_shards pages_of_one shards).nodes ((0, key.Many (key.Word (codes "y") ∷ [])) ∷ []) ≡ false
unfolding answering
y_is_not = refl

-- the whole has y with the row of the second shard alone, and below it one number of two
y_in_the_whole : map (λ n. map (λ b. b.count) (parts n).buckets) (whole_of_shards pages_of_one shards).nodes ≡ (1 ∷ 1 ∷ []) ∷ []
unfolding answering
y_in_the_whole = refl

y_counts_two : true_count shards pages_of_one ((0, key.Many (key.Word (codes "y") ∷ [])) ∷ []) ≡ 2
unfolding answering
y_counts_two = refl

the_page_has_x : map answered_groups (answer_of_shards pages_of_one shards).nodes ≡ ((key.Many (key.Word (codes "x") ∷ []), 1) ∷ []) ∷ []
unfolding answering
the_page_has_x = refl

both_groups : composite_groups shards pages_of_one ≡ (key.Many (key.Word (codes "x") ∷ []), 1) ∷ (key.Many (key.Word (codes "y") ∷ []), 2) ∷ []
unfolding answering
both_groups = refl

-- terms of which each shard returns one
abbrev one_term : Search
one_term = search_of query.All (agg (codes "t") (kind.Terms 2 1 1 1 by_count None [] None false) (agg (codes "n") (kind.Terms 1 1 1 1 by_count None [] None false) [] ∷ []) ∷ [])

a_cut_stops_the_path : is_uncut one_term.aggs (whole_of_shards one_term shards).nodes ((0, key.Word (codes "x")) ∷ []) ≡ false
unfolding answering
a_cut_stops_the_path = refl

no_cut_in_the_second_shard : is_uncut one_term.aggs (whole_of_shards one_term (only_y ∷ [])).nodes ((0, key.Word (codes "y")) ∷ (0, key.Whole (pos 5)) ∷ []) ≡ true
unfolding answering
no_cut_in_the_second_shard = refl

-- the page behind x, and the page behind y, which is the last
abbrev second_page : Search
second_page = search_after pages_of_one (key.Many (key.Word (codes "x") ∷ []))

abbrev last_page : Search
last_page = search_after second_page (key.Many (key.Word (codes "y") ∷ []))

three_pages : map (page_groups shards) (pages_of_one ∷ second_page ∷ last_page ∷ [])
    ≡ ((key.Many (key.Word (codes "x") ∷ []), 1) ∷ []) ∷ ((key.Many (key.Word (codes "y") ∷ []), 2) ∷ []) ∷ [] ∷ []
unfolding answering
three_pages = refl

-- a histogram from 3 on, whose first bucket no shard has, and terms below each
abbrev from_three : Search
from_three = search_of query.All (agg (codes "h") (kind.Histogram 1 1 0 0 (bounds (Some (pos 3)) None) (bounds None None) false by_key None) (agg (codes "t") (kind.Terms 2 1 1 1 by_count None [] None false) [] ∷ []) ∷ [])

a_filled_bucket_is_returned : is_returned from_three.aggs (whole_of_shards from_three shards).nodes ((0, key.Whole (pos 3)) ∷ []) ≡ true
unfolding answering
a_filled_bucket_is_returned = refl

no_shard_has_it : is_uncut from_three.aggs (whole_of_shards from_three shards).nodes ((0, key.Whole (pos 3)) ∷ []) ≡ false
unfolding answering
no_shard_has_it = refl

nothing_stands_below_it : map returned_count (answers_at (answer_of_shards from_three shards).nodes ((0, key.Whole (pos 3)) ∷ [])) ≡ 0 ∷ []
unfolding answering
nothing_stands_below_it = refl

-- below 4 the first shard returns x alone, and the answer leaves out y
the_answer_leaves_out_one : map other_count (answers_at (answer_of_shards from_three shards).nodes ((0, key.Whole (pos 4)) ∷ [])) ≡ 1 ∷ []
unfolding answering
the_answer_leaves_out_one = refl

-- an answer shows that no term was cut above its buckets, and where one was
it_shows_no_cut_on_the_way : shows_all (answer_of_shards from_three shards).nodes ((0, key.Whole (pos 4)) ∷ []) ≡ true
unfolding answering
it_shows_no_cut_on_the_way = refl

it_shows_a_cut : shows_all (answer_of_shards one_term shards).nodes ((0, key.Word (codes "x")) ∷ []) ≡ false
unfolding answering
it_shows_a_cut = refl

a_key_that_is_not_returned : is_returned from_three.aggs (whole_of_shards from_three shards).nodes ((0, key.Whole (pos 9)) ∷ []) ≡ false
unfolding answering
a_key_that_is_not_returned = refl
