-- Answers of nested and reverse nested, computed.
use Rattle.std.specs.Prelude.{◌≡◌, refl, false, [], ◌∷◌, None, codes}
use Rattle.agg_model.specs.declared.row.Scalar.TheVariants as scalar
use Rattle.agg_model.specs.declared.query.Query.TheVariants as query
use Rattle.agg_model.specs.declared.query.Probe.TheVariants as probe
use Rattle.agg_model.specs.declared.aggregation.Kind.TheVariants as kind
use Rattle.agg_spec.specs.Index.{Index}
use Rattle.agg_spec.proofs.Samples.{row, parent_row, nested_at, items_index, by_count, agg, leaf, search_of, aggregations_text}
use Rattle.agg_spec.proofs.Computing.{computing}

abbrev one_order : Index
one_order = items_index (parent_row [] (nested_at 0 (row (record { field = 0; values = scalar.Word (codes "k") ∷ [] } ∷ []) ∷ row (record { field = 0; values = scalar.Word (codes "k") ∷ [] } ∷ []) ∷ []) ∷ []) ∷ [])

one_root_for_two_objects :
    aggregations_text one_order (search_of query.All (agg (codes "o") (kind.Nested 1) (agg (codes "by") (kind.Terms 0 10 25 1 by_count None [] None false) (leaf (codes "back") (kind.ReverseNested 0) ∷ []) ∷ []) ∷ []))
    ≡ codes "{\"o\":{\"by\":{\"buckets\":[{\"back\":{\"doc_count\":1},\"doc_count\":2,\"key\":\"k\"}],\"doc_count_error_upper_bound\":0,\"sum_other_doc_count\":0},\"doc_count\":2}}"
unfolding computing
one_root_for_two_objects = refl

abbrev two_orders : Index
two_orders = items_index (parent_row [] (nested_at 0 (row (record { field = 0; values = scalar.Word (codes "k") ∷ [] } ∷ []) ∷ []) ∷ []) ∷ parent_row [] (nested_at 0 (row (record { field = 0; values = scalar.Word (codes "m") ∷ [] } ∷ []) ∷ row (record { field = 0; values = scalar.Word (codes "k") ∷ [] } ∷ []) ∷ []) ∷ []) ∷ [])

nested_objects_by_value :
    aggregations_text two_orders (search_of query.All (agg (codes "o") (kind.Nested 1) (agg (codes "by") (kind.Terms 0 10 25 1 by_count None [] None false) (agg (codes "back") (kind.ReverseNested 0) (leaf (codes "again") (kind.Nested 1) ∷ []) ∷ []) ∷ []) ∷ []))
    ≡ codes "{\"o\":{\"by\":{\"buckets\":[{\"back\":{\"again\":{\"doc_count\":3},\"doc_count\":2},\"doc_count\":2,\"key\":\"k\"},{\"back\":{\"again\":{\"doc_count\":2},\"doc_count\":1},\"doc_count\":1,\"key\":\"m\"}],\"doc_count_error_upper_bound\":0,\"sum_other_doc_count\":0},\"doc_count\":3}}"
unfolding computing
nested_objects_by_value = refl

nested_query :
    aggregations_text two_orders (search_of (query.Nested 0 (query.Term 0 (probe.Word (codes "m")))) (leaf (codes "o") (kind.Nested 1) ∷ []))
    ≡ codes "{\"o\":{\"doc_count\":2}}"
unfolding computing
nested_query = refl

field_of_another_context :
    aggregations_text two_orders (search_of query.All (leaf (codes "t") (kind.Terms 0 10 25 1 by_count None [] None false) ∷ []))
    ≡ codes "{\"t\":{\"buckets\":[],\"doc_count_error_upper_bound\":0,\"sum_other_doc_count\":0}}"
unfolding computing
field_of_another_context = refl

abbrev no_order : Index
no_order = items_index []

no_object :
    aggregations_text no_order (search_of query.All (agg (codes "o") (kind.Nested 1) (leaf (codes "by") (kind.Terms 0 10 25 1 by_count None [] None false) ∷ []) ∷ []))
    ≡ codes "{\"o\":{\"by\":{\"buckets\":[],\"doc_count_error_upper_bound\":0,\"sum_other_doc_count\":0},\"doc_count\":0}}"
unfolding computing
no_object = refl
