-- Ceilings below nested rows: one path for each row passed, also where a reverse nested aggregation then leads back.
-- Nested paths: 0 is c and 1 is c.r, which lies below it. Fields: 0 is c.k, 1 is c.r.s, 2 is t.
use Rattle.std.specs.Prelude.{◌≡◌, refl, pos, negsuc, List, [], ◌∷◌, Some, codes}
use Rattle.agg_model.specs.declared.query.Query.TheVariants as query
use Rattle.agg_model.specs.declared.aggregation.Kind.TheVariants as kind
use Rattle.agg_evaluation.specs.Rows.{PlacedRow, shard_rows}
use Rattle.agg_evaluation.specs.Trace.{trace}
use Rattle.agg_evaluation.specs.Ceiling.{ceiling}
use Rattle.agg_evaluation.proofs.Computing.{computing}
use Rattle.evaluation_laws.proofs.Samples.{numbers, words, row, flat, nested, document, terms, agg, search_of}
use Rattle.agg_model.specs.declared.mapping.FieldKind.{FieldKind}
use Rattle.agg_model.specs.declared.mapping.FieldKind.TheVariants.{Keyword, Long}

abbrev documents : List PlacedRow
documents = shard_rows
    (document (codes "1") (row (words 2 ((codes "x") ∷ []) ∷ []) (nested 0 ((row (words 0 ((codes "a") ∷ []) ∷ []) (nested 1 ((flat (numbers 1 ((pos 1) ∷ []) ∷ [])) ∷ (flat (numbers 1 ((pos 2) ∷ []) ∷ [])) ∷ []) ∷ [])) ∷ (row (words 0 ((codes "b") ∷ []) ∷ []) (nested 1 ((flat (numbers 1 ((pos 3) ∷ []) ∷ [])) ∷ []) ∷ [])) ∷ []) ∷ []))
    ∷ document (codes "2") (row (words 2 ((codes "y") ∷ []) ∷ []) (nested 0 ((row (words 0 ((codes "a") ∷ []) ∷ []) (nested 1 ((flat (numbers 1 ((pos 2) ∷ []) ∷ [])) ∷ (flat (numbers 1 ((pos 2) ∷ []) ∷ [])) ∷ []) ∷ [])) ∷ []) ∷ []))
    ∷ document (codes "3") (flat (words 2 ((codes "z") ∷ []) ∷ []))
    ∷ [])

abbrev kinds : List FieldKind
kinds = Keyword ∷ Long ∷ Keyword ∷ []

each_row_is_a_path_back_to_its_root : ceiling kinds (search_of query.All ((agg (codes "r") (kind.Nested 2) ((agg (codes "s") (terms 1) ((agg (codes "root") (kind.ReverseNested 0) ((agg (codes "t") (terms 2) []) ∷ [])) ∷ [])) ∷ [])) ∷ [])) documents
    ≡ (Some 24666)
unfolding computing
each_row_is_a_path_back_to_its_root = refl

a_root_charges_its_nested_rows_at_once : trace (search_of query.All ((agg (codes "r") (kind.Nested 2) ((agg (codes "s") (terms 1) ((agg (codes "root") (kind.ReverseNested 0) ((agg (codes "t") (terms 2) []) ∷ [])) ∷ [])) ∷ [])) ∷ [])) documents
    ≡ ((pos 5248) ∷ (pos 4251) ∷ (pos 129) ∷ (negsuc 4095) ∷ [])
unfolding computing
a_root_charges_its_nested_rows_at_once = refl
