-- What a task charges and gives back. Fields: 0 is b (boolean), 1 is n (long), 2 is t (keyword).
use Rattle.std.specs.Prelude.{◌≡◌, refl, pos, negsuc, true, false, List, [], ◌∷◌, None, codes}
use Rattle.agg_model.specs.declared.query.Query.TheVariants as query
use Rattle.agg_model.specs.declared.query.Probe.TheVariants as probe
use Rattle.agg_model.specs.declared.aggregation.Kind.TheVariants as kind
use Rattle.agg_evaluation.specs.Rows.{PlacedRow, shard_rows}
use Rattle.agg_evaluation.specs.Keys.{no_bounds}
use Rattle.agg_evaluation.specs.Shard.{shard_answer}
use Rattle.agg_evaluation.specs.Cost.{cost}
use Rattle.agg_evaluation.specs.Trace.{trace, peak, gross}
use Rattle.agg_evaluation.proofs.Computing.{computing}
use Rattle.evaluation_laws.proofs.Samples.{numbers, words, flat, document, by_count, by_key, source, terms, agg, search_of}

abbrev none : List PlacedRow
none = shard_rows
    ([])

abbrev a_and_b : List PlacedRow
a_and_b = shard_rows
    (document (codes "1") (flat (words 2 ((codes "a") ∷ []) ∷ []))
    ∷ document (codes "2") (flat (words 2 ((codes "b") ∷ []) ∷ []))
    ∷ [])

abbrev three_of_a : List PlacedRow
three_of_a = shard_rows
    (document (codes "1") (flat (words 2 ((codes "a") ∷ []) ∷ []))
    ∷ document (codes "2") (flat (words 2 ((codes "a") ∷ []) ∷ []))
    ∷ document (codes "3") (flat (words 2 ((codes "a") ∷ []) ∷ []))
    ∷ document (codes "4") (flat (words 2 ((codes "b") ∷ []) ∷ []))
    ∷ document (codes "5") (flat (words 2 ((codes "b") ∷ []) ∷ []))
    ∷ [])

abbrev two : List PlacedRow
two = shard_rows
    (document (codes "1") (flat (numbers 1 ((pos 1) ∷ (pos 2) ∷ []) ∷ words 2 ((codes "x") ∷ []) ∷ []))
    ∷ document (codes "2") (flat (numbers 1 ((pos 1) ∷ (pos 2) ∷ (pos 3) ∷ []) ∷ words 2 ((codes "y") ∷ []) ∷ []))
    ∷ [])

nothing_but_the_node : trace (search_of query.All ((agg (codes "t") (terms 2) []) ∷ [])) none
    ≡ ((pos 4608) ∷ (negsuc 4095) ∷ [])
unfolding computing
nothing_but_the_node = refl

each_new_key_is_charged : trace (search_of query.All ((agg (codes "t") (terms 2) []) ∷ [])) a_and_b
    ≡ ((pos 4608) ∷ (pos 129) ∷ (pos 129) ∷ (negsuc 4095) ∷ [])
unfolding computing
each_new_key_is_charged = refl

-- a term that is seen again charges nothing
what_the_cut_drops_is_given_back : trace (search_of query.All ((agg (codes "t") (kind.Terms 2 1 1 1 by_count None [] None false) []) ∷ [])) three_of_a
    ≡ ((pos 4608) ∷ (pos 129) ∷ (pos 129) ∷ (negsuc 4224) ∷ [])
unfolding computing
what_the_cut_drops_is_given_back = refl

a_search_without_aggregations : trace (search_of query.All []) a_and_b
    ≡ ((pos 4096) ∷ (negsuc 4095) ∷ [])
unfolding computing
a_search_without_aggregations = refl

abbrev rising : List PlacedRow
rising = shard_rows
    (document (codes "1") (flat (numbers 1 ((pos 1) ∷ (pos 2) ∷ []) ∷ []))
    ∷ document (codes "2") (flat (numbers 1 ((pos 3) ∷ []) ∷ []))
    ∷ document (codes "3") (flat (numbers 1 ((pos 4) ∷ []) ∷ []))
    ∷ [])

a_composite_keeps_its_page_while_it_is_built : trace (search_of query.All ((agg (codes "c") (kind.Composite (source (codes "m") 1 None true false ∷ []) 2 None) []) ∷ [])) rising
    ≡ ((pos 4608) ∷ (pos 272) ∷ (negsuc 4095) ∷ [])
unfolding computing
a_composite_keeps_its_page_while_it_is_built = refl

abbrev words_of_two_lengths : List PlacedRow
words_of_two_lengths = shard_rows
    (document (codes "1") (flat (words 2 ((codes "long") ∷ []) ∷ []))
    ∷ document (codes "2") (flat (words 2 ((codes "s") ∷ []) ∷ []))
    ∷ [])

a_shorter_key_gives_back : trace (search_of query.All ((agg (codes "c") (kind.Composite (source (codes "k") 2 None true false ∷ []) 1 None) []) ∷ [])) words_of_two_lengths
    ≡ ((pos 4608) ∷ (pos 132) ∷ (negsuc 2) ∷ (negsuc 4095) ∷ [])
unfolding computing
a_shorter_key_gives_back = refl

global_is_collected_after_the_matched_rows : trace (search_of (query.Term 2 (probe.Word (codes "b"))) ((agg (codes "all") kind.Global ((agg (codes "t") (terms 2) []) ∷ [])) ∷ (agg (codes "t") (terms 2) []) ∷ [])) a_and_b
    ≡ ((pos 5760) ∷ (pos 129) ∷ (pos 129) ∷ (pos 129) ∷ (negsuc 4095) ∷ [])
unfolding computing
global_is_collected_after_the_matched_rows = refl

children_of_a_new_bucket_are_charged_with_it : trace (search_of query.All ((agg (codes "t") (terms 2) ((agg (codes "h") (kind.Histogram 1 1 0 0 no_bounds no_bounds false by_key None) []) ∷ [])) ∷ [])) two
    ≡ ((pos 4608) ∷ (pos 913) ∷ (pos 1049) ∷ (negsuc 4095) ∷ [])
unfolding computing
children_of_a_new_bucket_are_charged_with_it = refl

most_of_these_stands_before_the_end : peak (search_of query.All ((agg (codes "t") (terms 2) ((agg (codes "h") (kind.Histogram 1 1 0 0 no_bounds no_bounds false by_key None) []) ∷ [])) ∷ [])) two
    ≡ pos 6570
unfolding computing
most_of_these_stands_before_the_end = refl

gross_of_these : gross (search_of query.All ((agg (codes "t") (terms 2) ((agg (codes "h") (kind.Histogram 1 1 0 0 no_bounds no_bounds false by_key None) []) ∷ [])) ∷ [])) two
    ≡ pos 6570
unfolding computing
gross_of_these = refl

gross_counts_what_is_given_back_again : gross (search_of query.All ((agg (codes "t") (kind.Terms 2 1 1 1 by_count None [] None false) []) ∷ [])) three_of_a
    ≡ pos 4866
unfolding computing
gross_counts_what_is_given_back_again = refl

cost_of_the_cut_answer : cost (shard_answer (search_of query.All ((agg (codes "t") (kind.Terms 2 1 1 1 by_count None [] None false) []) ∷ [])) three_of_a)
    ≡ 641
unfolding computing
cost_of_the_cut_answer = refl
