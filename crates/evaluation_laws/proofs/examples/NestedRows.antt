-- Nested documents. Nested paths: 0 is c and 1 is c.r, which lies below it. Fields: 0 is c.k, 1 is c.r.s, 2 is t.
use Rattle.std.specs.Prelude.{◌≡◌, refl, pos, List, [], ◌∷◌, map, codes}
use Rattle.agg_model.specs.declared.key.Key.TheVariants as key
use Rattle.agg_model.specs.declared.query.Query.TheVariants as query
use Rattle.agg_model.specs.declared.query.Probe.TheVariants as probe
use Rattle.agg_model.specs.declared.aggregation.Kind.TheVariants as kind
use Rattle.agg_model.specs.declared.partial.Node.TheVariants.{Fixed}
use Rattle.agg_evaluation.specs.Rows.{PlacedRow, shard_rows}
use Rattle.agg_evaluation.specs.Matching.{matched_roots}
use Rattle.agg_evaluation.specs.Shard.{shard_answer}
use Rattle.agg_evaluation.proofs.Computing.{computing}
use Rattle.evaluation_laws.proofs.Samples.{numbers, words, row, flat, nested, document, terms, agg, search_of, bucket, keyed, result}

abbrev documents : List PlacedRow
documents = shard_rows
    (document (codes "1") (row (words 2 ((codes "x") ∷ []) ∷ []) (nested 0 ((row (words 0 ((codes "a") ∷ []) ∷ []) (nested 1 ((flat (numbers 1 ((pos 1) ∷ []) ∷ [])) ∷ (flat (numbers 1 ((pos 2) ∷ []) ∷ [])) ∷ []) ∷ [])) ∷ (row (words 0 ((codes "b") ∷ []) ∷ []) (nested 1 ((flat (numbers 1 ((pos 3) ∷ []) ∷ [])) ∷ []) ∷ [])) ∷ []) ∷ []))
    ∷ document (codes "2") (row (words 2 ((codes "y") ∷ []) ∷ []) (nested 0 ((row (words 0 ((codes "a") ∷ []) ∷ []) (nested 1 ((flat (numbers 1 ((pos 2) ∷ []) ∷ [])) ∷ (flat (numbers 1 ((pos 2) ∷ []) ∷ [])) ∷ []) ∷ [])) ∷ []) ∷ []))
    ∷ document (codes "3") (flat (words 2 ((codes "z") ∷ []) ∷ []))
    ∷ [])

nested_query_matches_a_row_below : map (λ r. r.id) (matched_roots documents (query.Nested 0 (query.Term 0 (probe.Word (codes "b")))))
    ≡ ((codes "1") ∷ [])
unfolding computing
nested_query_matches_a_row_below = refl

-- b and 2 both stand in the first document, but not within one row
nested_query_wants_both_in_one_row : map (λ r. r.id) (matched_roots documents (query.Nested 0 (query.Bool ((query.Term 0 (probe.Word (codes "b"))) ∷ (query.Nested 1 (query.Term 1 (probe.Whole (pos 2)))) ∷ []) [] [] 0)))
    ≡ []
unfolding computing
nested_query_wants_both_in_one_row = refl

nested_query_goes_down_two_levels : map (λ r. r.id) (matched_roots documents (query.Nested 1 (query.Term 1 (probe.Whole (pos 3)))))
    ≡ ((codes "1") ∷ [])
unfolding computing
nested_query_goes_down_two_levels = refl

field_of_a_nested_row_has_no_value_at_the_root : map (λ r. r.id) (matched_roots documents (query.Term 0 (probe.Word (codes "a"))))
    ≡ []
unfolding computing
field_of_a_nested_row_has_no_value_at_the_root = refl

nested_counts_rows : shard_answer (search_of query.All ((agg (codes "c") (kind.Nested 1) ((agg (codes "k") (terms 0) []) ∷ [])) ∷ [])) documents
    ≡ result 3 ((Fixed (bucket (key.Fixed 0) 3 ((keyed (bucket (key.Word (codes "a")) 2 [] ∷ bucket (key.Word (codes "b")) 1 [] ∷ [])) ∷ []) ∷ [])) ∷ [])
unfolding computing
nested_counts_rows = refl

nested_below_nested_and_back_to_the_middle : shard_answer (search_of query.All ((agg (codes "c") (kind.Nested 1) ((agg (codes "r") (kind.Nested 2) ((agg (codes "s") (terms 1) ((agg (codes "m") (kind.ReverseNested 1) ((agg (codes "k") (terms 0) []) ∷ [])) ∷ [])) ∷ [])) ∷ [])) ∷ [])) documents
    ≡ result 3 ((Fixed (bucket (key.Fixed 0) 3 ((Fixed (bucket (key.Fixed 0) 5 ((keyed (bucket (key.Whole (pos 1)) 1 ((Fixed (bucket (key.Fixed 0) 1 ((keyed (bucket (key.Word (codes "a")) 1 [] ∷ [])) ∷ []) ∷ [])) ∷ []) ∷ bucket (key.Whole (pos 2)) 3 ((Fixed (bucket (key.Fixed 0) 2 ((keyed (bucket (key.Word (codes "a")) 2 [] ∷ [])) ∷ []) ∷ [])) ∷ []) ∷ bucket (key.Whole (pos 3)) 1 ((Fixed (bucket (key.Fixed 0) 1 ((keyed (bucket (key.Word (codes "b")) 1 [] ∷ [])) ∷ []) ∷ [])) ∷ []) ∷ [])) ∷ []) ∷ [])) ∷ []) ∷ [])) ∷ [])
unfolding computing
nested_below_nested_and_back_to_the_middle = refl

reverse_nested_to_the_root : shard_answer (search_of query.All ((agg (codes "r") (kind.Nested 2) ((agg (codes "s") (terms 1) ((agg (codes "root") (kind.ReverseNested 0) ((agg (codes "t") (terms 2) []) ∷ [])) ∷ [])) ∷ [])) ∷ [])) documents
    ≡ result 3 ((Fixed (bucket (key.Fixed 0) 5 ((keyed (bucket (key.Whole (pos 1)) 1 ((Fixed (bucket (key.Fixed 0) 1 ((keyed (bucket (key.Word (codes "x")) 1 [] ∷ [])) ∷ []) ∷ [])) ∷ []) ∷ bucket (key.Whole (pos 2)) 3 ((Fixed (bucket (key.Fixed 0) 2 ((keyed (bucket (key.Word (codes "x")) 1 [] ∷ bucket (key.Word (codes "y")) 1 [] ∷ [])) ∷ []) ∷ [])) ∷ []) ∷ bucket (key.Whole (pos 3)) 1 ((Fixed (bucket (key.Fixed 0) 1 ((keyed (bucket (key.Word (codes "x")) 1 [] ∷ [])) ∷ []) ∷ [])) ∷ []) ∷ [])) ∷ []) ∷ [])) ∷ [])
unfolding computing
reverse_nested_to_the_root = refl
