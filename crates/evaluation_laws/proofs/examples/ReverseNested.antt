-- A root is counted once, though two of its rows have the key. Field 0 is items.s, and nested path 0 is items.
use Rattle.std.specs.Prelude.{◌≡◌, refl, List, [], ◌∷◌, codes}
use Rattle.agg_model.specs.declared.key.Key.TheVariants as key
use Rattle.agg_model.specs.declared.query.Query.TheVariants as query
use Rattle.agg_model.specs.declared.aggregation.Kind.TheVariants as kind
use Rattle.agg_model.specs.declared.partial.Node.TheVariants.{Fixed}
use Rattle.agg_evaluation.specs.Rows.{PlacedRow, shard_rows}
use Rattle.agg_evaluation.specs.Shard.{shard_answer}
use Rattle.agg_evaluation.proofs.Computing.{computing}
use Rattle.evaluation_laws.proofs.Samples.{words, row, flat, nested, document, terms, agg, search_of, bucket, keyed, result}

abbrev documents : List PlacedRow
documents = shard_rows
    (document (codes "1") (row [] (nested 0 ((flat (words 0 ((codes "k") ∷ []) ∷ [])) ∷ (flat (words 0 ((codes "k") ∷ []) ∷ [])) ∷ []) ∷ []))
    ∷ [])

a_root_counts_once : shard_answer (search_of query.All ((agg (codes "o") (kind.Nested 1) ((agg (codes "by") (terms 0) ((agg (codes "back") (kind.ReverseNested 0) []) ∷ [])) ∷ [])) ∷ [])) documents
    ≡ result 1 ((Fixed (bucket (key.Fixed 0) 2 ((keyed (bucket (key.Word (codes "k")) 2 ((Fixed (bucket (key.Fixed 0) 1 [] ∷ [])) ∷ []) ∷ [])) ∷ []) ∷ [])) ∷ [])
unfolding computing
a_root_counts_once = refl
