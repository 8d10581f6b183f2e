-- Metric aggregations of one shard. Fields: 0 is b (boolean), 1 is n (long), 2 is t (keyword).
use Rattle.std.specs.Prelude.{◌≡◌, refl, pos, negsuc, true, List, [], ◌∷◌, Some, None, codes}
use Rattle.agg_model.specs.declared.row.Scalar.TheVariants as scalar
use Rattle.agg_model.specs.declared.query.Query.TheVariants as query
use Rattle.agg_model.specs.declared.aggregation.Kind.TheVariants as kind
use Rattle.agg_evaluation.specs.Rows.{PlacedRow, shard_rows}
use Rattle.agg_evaluation.specs.Shard.{shard_answer}
use Rattle.agg_evaluation.proofs.Computing.{computing}
use Rattle.evaluation_laws.proofs.Samples.{numbers, words, flags, flat, document, agg, search_of, metric, result}

abbrev documents : List PlacedRow
documents = shard_rows
    (document (codes "1") (flat (numbers 1 ((negsuc 0) ∷ (pos 4) ∷ []) ∷ words 2 ((codes "a") ∷ (codes "b") ∷ []) ∷ []))
    ∷ document (codes "2") (flat (flags 0 (true ∷ true ∷ []) ∷ numbers 1 ((pos 0) ∷ []) ∷ []))
    ∷ document (codes "3") (flat (words 2 ((codes "a") ∷ []) ∷ []))
    ∷ [])

abbrev none : List PlacedRow
none = shard_rows
    ([])

metrics_see_each_value : shard_answer (search_of query.All ((agg (codes "a") (kind.Avg 1 None) []) ∷ (agg (codes "b") (kind.Max 1 None) []) ∷ (agg (codes "c") (kind.Min 1 None) []) ∷ (agg (codes "d") (kind.Sum 1 None) []) ∷ [])) documents
    ≡ result 3 ((metric 3 (pos 3) (Some (negsuc 0)) (Some (pos 4))) ∷ (metric 3 (pos 3) (Some (negsuc 0)) (Some (pos 4))) ∷ (metric 3 (pos 3) (Some (negsuc 0)) (Some (pos 4))) ∷ (metric 3 (pos 3) (Some (negsuc 0)) (Some (pos 4))) ∷ [])
unfolding computing
metrics_see_each_value = refl

missing_stands_for_a_row_without_a_value : shard_answer (search_of query.All ((agg (codes "a") (kind.Avg 1 (Some (scalar.Whole (negsuc 6)))) []) ∷ (agg (codes "b") (kind.Max 1 (Some (scalar.Whole (negsuc 6)))) []) ∷ (agg (codes "c") (kind.Min 1 (Some (scalar.Whole (negsuc 6)))) []) ∷ (agg (codes "d") (kind.Sum 1 (Some (scalar.Whole (negsuc 6)))) []) ∷ [])) documents
    ≡ result 3 ((metric 4 (negsuc 3) (Some (negsuc 6)) (Some (pos 4))) ∷ (metric 4 (negsuc 3) (Some (negsuc 6)) (Some (pos 4))) ∷ (metric 4 (negsuc 3) (Some (negsuc 6)) (Some (pos 4))) ∷ (metric 4 (negsuc 3) (Some (negsuc 6)) (Some (pos 4))) ∷ [])
unfolding computing
missing_stands_for_a_row_without_a_value = refl

metrics_of_nothing : shard_answer (search_of query.All ((agg (codes "a") (kind.Avg 1 None) []) ∷ (agg (codes "b") (kind.Max 1 None) []) ∷ (agg (codes "c") (kind.Min 1 None) []) ∷ (agg (codes "d") (kind.Sum 1 None) []) ∷ [])) none
    ≡ result 0 ((metric 0 (pos 0) None None) ∷ (metric 0 (pos 0) None None) ∷ (metric 0 (pos 0) None None) ∷ (metric 0 (pos 0) None None) ∷ [])
unfolding computing
metrics_of_nothing = refl

value_count_counts_values : shard_answer (search_of query.All ((agg (codes "b") (kind.ValueCount 0 None) []) ∷ (agg (codes "n") (kind.ValueCount 1 None) []) ∷ (agg (codes "t") (kind.ValueCount 2 None) []) ∷ [])) documents
    ≡ result 3 ((metric 2 (pos 0) None None) ∷ (metric 3 (pos 3) (Some (negsuc 0)) (Some (pos 4))) ∷ (metric 3 (pos 0) None None) ∷ [])
unfolding computing
value_count_counts_values = refl

value_count_with_missing : shard_answer (search_of query.All ((agg (codes "b") (kind.ValueCount 0 (Some (scalar.Flag true))) []) ∷ (agg (codes "t") (kind.ValueCount 2 (Some (scalar.Word (codes "none")))) []) ∷ [])) documents
    ≡ result 3 ((metric 4 (pos 0) None None) ∷ (metric 4 (pos 0) None None) ∷ [])
unfolding computing
value_count_with_missing = refl
