-- Aggregations whose buckets exist from the start. Fields: 0 is b (boolean), 1 is n (long), 2 is t (keyword).
use Rattle.std.specs.Prelude.{◌≡◌, refl, pos, List, [], ◌∷◌, Some, None, codes}
use Rattle.agg_model.specs.declared.key.Key.TheVariants as key
use Rattle.agg_model.specs.declared.query.Query.TheVariants as query
use Rattle.agg_model.specs.declared.query.Probe.TheVariants as probe
use Rattle.agg_model.specs.declared.query.RangeOp.TheVariants.{Gte, Lt}
use Rattle.agg_model.specs.declared.aggregation.Kind.TheVariants as kind
use Rattle.agg_model.specs.declared.partial.Node.TheVariants.{Fixed}
use Rattle.agg_evaluation.specs.Rows.{PlacedRow, shard_rows}
use Rattle.agg_evaluation.specs.Shard.{shard_answer}
use Rattle.agg_evaluation.proofs.Computing.{computing}
use Rattle.evaluation_laws.proofs.Samples.{numbers, words, flat, document, bound, terms, agg, search_of, bucket, keyed, metric, result}

abbrev documents : List PlacedRow
documents = shard_rows
    (document (codes "1") (flat (numbers 1 ((pos 1) ∷ []) ∷ words 2 ((codes "p") ∷ (codes "q") ∷ []) ∷ []))
    ∷ document (codes "2") (flat (numbers 1 ((pos 2) ∷ []) ∷ words 2 ((codes "z") ∷ []) ∷ []))
    ∷ document (codes "3") (flat (numbers 1 ((pos 3) ∷ (pos 4) ∷ []) ∷ []))
    ∷ [])

abbrev none : List PlacedRow
none = shard_rows
    ([])

filters_and_the_other_bucket : shard_answer (search_of (query.Exists 2) ((agg (codes "f") (kind.Filters (Some ((codes "x") ∷ (codes "y") ∷ [])) ((query.Term 2 (probe.Word (codes "p"))) ∷ (query.Term 2 (probe.Word (codes "q"))) ∷ []) (Some (codes "rest"))) []) ∷ [])) documents
    ≡ result 2 ((Fixed (bucket (key.Fixed 0) 1 [] ∷ bucket (key.Fixed 1) 1 [] ∷ bucket (key.Fixed 2) 1 [] ∷ [])) ∷ [])
unfolding computing
filters_and_the_other_bucket = refl

filters_without_the_other_bucket : shard_answer (search_of query.All ((agg (codes "f") (kind.Filters None ((query.Term 2 (probe.Word (codes "p"))) ∷ (query.Range 1 (bound Gte (probe.Whole (pos 2)) ∷ [])) ∷ []) None) ((agg (codes "s") (kind.Sum 1 None) []) ∷ [])) ∷ [])) documents
    ≡ result 3 ((Fixed (bucket (key.Fixed 0) 1 ((metric 1 (pos 1) (Some (pos 1)) (Some (pos 1))) ∷ []) ∷ bucket (key.Fixed 1) 2 ((metric 3 (pos 9) (Some (pos 2)) (Some (pos 4))) ∷ []) ∷ [])) ∷ [])
unfolding computing
filters_without_the_other_bucket = refl

filters_of_no_row_have_all_buckets : shard_answer (search_of query.All ((agg (codes "f") (kind.Filters None (query.All ∷ []) (Some (codes "_other_"))) ((agg (codes "t") (terms 2) []) ∷ [])) ∷ [])) none
    ≡ result 0 ((Fixed (bucket (key.Fixed 0) 0 ((keyed []) ∷ []) ∷ bucket (key.Fixed 1) 0 ((keyed []) ∷ []) ∷ [])) ∷ [])
unfolding computing
filters_of_no_row_have_all_buckets = refl

filter_keeps_what_matches : shard_answer (search_of query.All ((agg (codes "f") (kind.Filter (query.Range 1 (bound Lt (probe.Whole (pos 3)) ∷ []))) ((agg (codes "t") (terms 2) []) ∷ [])) ∷ [])) documents
    ≡ result 3 ((Fixed (bucket (key.Fixed 0) 2 ((keyed (bucket (key.Word (codes "p")) 1 [] ∷ bucket (key.Word (codes "q")) 1 [] ∷ bucket (key.Word (codes "z")) 1 [] ∷ [])) ∷ []) ∷ [])) ∷ [])
unfolding computing
filter_keeps_what_matches = refl

missing_keeps_rows_without_a_value : shard_answer (search_of query.All ((agg (codes "m") (kind.Missing 2) ((agg (codes "s") (kind.Sum 1 None) []) ∷ [])) ∷ [])) documents
    ≡ result 3 ((Fixed (bucket (key.Fixed 0) 1 ((metric 2 (pos 7) (Some (pos 3)) (Some (pos 4))) ∷ []) ∷ [])) ∷ [])
unfolding computing
missing_keeps_rows_without_a_value = refl

global_counts_all_roots : shard_answer (search_of (query.Term 2 (probe.Word (codes "p"))) ((agg (codes "all") kind.Global ((agg (codes "s") (kind.Sum 1 None) []) ∷ [])) ∷ (agg (codes "s") (kind.Sum 1 None) []) ∷ [])) documents
    ≡ result 1 ((Fixed (bucket (key.Fixed 0) 3 ((metric 4 (pos 10) (Some (pos 1)) (Some (pos 4))) ∷ []) ∷ [])) ∷ (metric 1 (pos 1) (Some (pos 1)) (Some (pos 1))) ∷ [])
unfolding computing
global_counts_all_roots = refl
