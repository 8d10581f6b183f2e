-- Composite aggregations of one shard. Fields: 1 is n (long), 2 is t (keyword).
use Rattle.std.specs.Prelude.{◌≡◌, refl, pos, true, false, List, [], ◌∷◌, Some, None, codes}
use Rattle.agg_model.specs.declared.key.Key.TheVariants as key
use Rattle.agg_model.specs.declared.query.Query.TheVariants as query
use Rattle.agg_model.specs.declared.aggregation.Kind.TheVariants as kind
use Rattle.agg_evaluation.specs.Rows.{PlacedRow, shard_rows}
use Rattle.agg_evaluation.specs.Shard.{shard_answer}
use Rattle.agg_evaluation.proofs.Computing.{computing}
use Rattle.evaluation_laws.proofs.Samples.{numbers, words, flat, document, source, terms, agg, search_of, bucket, keyed, result}

abbrev two : List PlacedRow
two = shard_rows
    (document (codes "1") (flat (numbers 1 ((pos 1) ∷ (pos 2) ∷ []) ∷ words 2 ((codes "x") ∷ []) ∷ []))
    ∷ document (codes "2") (flat (numbers 1 ((pos 1) ∷ (pos 2) ∷ (pos 3) ∷ []) ∷ words 2 ((codes "y") ∷ []) ∷ []))
    ∷ [])

abbrev with_a_gap : List PlacedRow
with_a_gap = shard_rows
    (document (codes "1") (flat (numbers 1 ((pos 1) ∷ (pos 2) ∷ []) ∷ words 2 ((codes "x") ∷ []) ∷ []))
    ∷ document (codes "2") (flat (numbers 1 ((pos 1) ∷ (pos 2) ∷ (pos 3) ∷ []) ∷ words 2 ((codes "y") ∷ []) ∷ []))
    ∷ document (codes "3") (flat (numbers 1 ((pos 7) ∷ []) ∷ []))
    ∷ [])

first_page : shard_answer (search_of query.All ((agg (codes "c") (kind.Composite (source (codes "k") 2 None false false ∷ source (codes "m") 1 None false false ∷ []) 2 None) []) ∷ [])) two
    ≡ result 2 ((keyed (bucket (key.Many ((key.Word (codes "x")) ∷ (key.Whole (pos 1)) ∷ [])) 1 [] ∷ bucket (key.Many ((key.Word (codes "x")) ∷ (key.Whole (pos 2)) ∷ [])) 1 [] ∷ [])) ∷ [])
unfolding computing
first_page = refl

page_after_a_key : shard_answer (search_of query.All ((agg (codes "c") (kind.Composite (source (codes "k") 2 None false false ∷ source (codes "m") 1 None false false ∷ []) 2 (Some (key.Many ((key.Word (codes "x")) ∷ (key.Whole (pos 2)) ∷ [])))) []) ∷ [])) two
    ≡ result 2 ((keyed (bucket (key.Many ((key.Word (codes "y")) ∷ (key.Whole (pos 1)) ∷ [])) 1 [] ∷ bucket (key.Many ((key.Word (codes "y")) ∷ (key.Whole (pos 2)) ∷ [])) 1 [] ∷ [])) ∷ [])
unfolding computing
page_after_a_key = refl

page_after_the_last_key : shard_answer (search_of query.All ((agg (codes "c") (kind.Composite (source (codes "k") 2 None false false ∷ source (codes "m") 1 None false false ∷ []) 2 (Some (key.Many ((key.Word (codes "y")) ∷ (key.Whole (pos 3)) ∷ [])))) []) ∷ [])) two
    ≡ result 2 ((keyed []) ∷ [])
unfolding computing
page_after_the_last_key = refl

null_comes_first : shard_answer (search_of query.All ((agg (codes "c") (kind.Composite (source (codes "k") 2 None false true ∷ source (codes "m") 1 None false false ∷ []) 2 None) []) ∷ [])) with_a_gap
    ≡ result 3 ((keyed (bucket (key.Many (key.Null ∷ (key.Whole (pos 7)) ∷ [])) 1 [] ∷ bucket (key.Many ((key.Word (codes "x")) ∷ (key.Whole (pos 1)) ∷ [])) 1 [] ∷ [])) ∷ [])
unfolding computing
null_comes_first = refl

without_null_the_row_has_no_key : shard_answer (search_of query.All ((agg (codes "c") (kind.Composite (source (codes "k") 2 None false false ∷ source (codes "m") 1 None false false ∷ []) 2 (Some (key.Many ((key.Word (codes "y")) ∷ (key.Whole (pos 2)) ∷ [])))) []) ∷ [])) with_a_gap
    ≡ result 3 ((keyed (bucket (key.Many ((key.Word (codes "y")) ∷ (key.Whole (pos 3)) ∷ [])) 1 [] ∷ [])) ∷ [])
unfolding computing
without_null_the_row_has_no_key = refl

page_after_a_key_that_no_row_has : shard_answer (search_of query.All ((agg (codes "c") (kind.Composite (source (codes "k") 2 None false true ∷ source (codes "m") 1 None false false ∷ []) 2 (Some (key.Many ((key.Word (codes "xx")) ∷ (key.Whole (pos 0)) ∷ [])))) []) ∷ [])) with_a_gap
    ≡ result 3 ((keyed (bucket (key.Many ((key.Word (codes "y")) ∷ (key.Whole (pos 1)) ∷ [])) 1 [] ∷ bucket (key.Many ((key.Word (codes "y")) ∷ (key.Whole (pos 2)) ∷ [])) 1 [] ∷ [])) ∷ [])
unfolding computing
page_after_a_key_that_no_row_has = refl

null_comes_last_where_the_source_descends : shard_answer (search_of query.All ((agg (codes "c") (kind.Composite (source (codes "k") 2 None true true ∷ source (codes "m") 1 None false false ∷ []) 2 (Some (key.Many ((key.Word (codes "x")) ∷ (key.Whole (pos 2)) ∷ [])))) []) ∷ [])) with_a_gap
    ≡ result 3 ((keyed (bucket (key.Many (key.Null ∷ (key.Whole (pos 7)) ∷ [])) 1 [] ∷ [])) ∷ [])
unfolding computing
null_comes_last_where_the_source_descends = refl

the_second_source_descends : shard_answer (search_of query.All ((agg (codes "c") (kind.Composite (source (codes "k") 2 None false false ∷ source (codes "m") 1 None true false ∷ []) 2 None) []) ∷ [])) two
    ≡ result 2 ((keyed (bucket (key.Many ((key.Word (codes "x")) ∷ (key.Whole (pos 1)) ∷ [])) 1 [] ∷ bucket (key.Many ((key.Word (codes "x")) ∷ (key.Whole (pos 2)) ∷ [])) 1 [] ∷ [])) ∷ [])
unfolding computing
the_second_source_descends = refl

page_after_null : shard_answer (search_of query.All ((agg (codes "c") (kind.Composite (source (codes "k") 2 None false true ∷ source (codes "m") 1 None false false ∷ []) 2 (Some (key.Many (key.Null ∷ (key.Whole (pos 7)) ∷ [])))) []) ∷ [])) with_a_gap
    ≡ result 3 ((keyed (bucket (key.Many ((key.Word (codes "x")) ∷ (key.Whole (pos 1)) ∷ [])) 1 [] ∷ bucket (key.Many ((key.Word (codes "x")) ∷ (key.Whole (pos 2)) ∷ [])) 1 [] ∷ [])) ∷ [])
unfolding computing
page_after_null = refl

histogram_source_and_a_child : shard_answer (search_of query.All ((agg (codes "c") (kind.Composite (source (codes "m") 1 (Some 2) true false ∷ []) 10 None) ((agg (codes "t") (terms 2) []) ∷ [])) ∷ [])) with_a_gap
    ≡ result 3 ((keyed (bucket (key.Many ((key.Whole (pos 0)) ∷ [])) 2 ((keyed (bucket (key.Word (codes "x")) 1 [] ∷ bucket (key.Word (codes "y")) 1 [] ∷ [])) ∷ []) ∷ bucket (key.Many ((key.Whole (pos 2)) ∷ [])) 2 ((keyed (bucket (key.Word (codes "x")) 1 [] ∷ bucket (key.Word (codes "y")) 1 [] ∷ [])) ∷ []) ∷ bucket (key.Many ((key.Whole (pos 6)) ∷ [])) 1 ((keyed []) ∷ []) ∷ [])) ∷ [])
unfolding computing
histogram_source_and_a_child = refl
