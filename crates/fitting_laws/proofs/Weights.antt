-- The rows of documents weigh as the documents do.
use Rattle.std.specs.Prelude.{◌≡◌, refl, ℕ, ◌+◌, List, [], ◌∷◌, ◌++◌, sum_by}
use Rattle.std.proofs.Common.{sym, ◌∙◌, ap}
use Rattle.std.proofs.lemmas.List.Sums.{sum_by-append, sum_by-cons}
use Rattle.agg_model.specs.declared.row.Row.{Row, Row', Row_of-Children, end_of-Children, more_of-Children}
use Rattle.agg_model.specs.declared.row.Children.{Children, Children', Row_of-Row, end_of-Row, more_of-Row}
use Rattle.agg_model.specs.declared.row.Document.{Document}
use Rattle.agg_evaluation.specs.Folds.{fold_rows, fold_all_children}
use Rattle.agg_evaluation.specs.Rows.{walk_children, walk_row, rows_of, rows_of_documents}
use Rattle.agg_model.specs.Weight.{field_weight}
use Rattle.agg_reading.specs.Store as store
use Rattle.shard_columns.specs.Layout.{children_of}
use Rattle.agg_evaluation.specs.RowsWeight as placed
use Rattle.agg_evaluation.proofs.RowsFit.{rows_at, beneath_at, rows_from}

mutual
  row_same : (r : Row) (context : ℕ) (id place : List ℕ) → placed.rows_weight (rows_of r context id place) ≡ store.row_weight r
  row_same (Row' values n children) context id place =
      sum_by-cons placed.row_weight (record { place = place; context = context; id = id; values = values }) (beneath_at id place (fold_all_children walk_children walk_row children))
      ∙ ap (λ (k : ℕ). 1 + sum_by field_weight values + k) (all_same children id place)

  all_same : {n : _} (cs : Row_of-Children n) (id place : List ℕ) → placed.rows_weight (beneath_at id place (fold_all_children walk_children walk_row cs)) ≡ store.all_children_weight cs
  all_same end_of-Children id place = refl
  all_same (more_of-Children c rest) id place =
      sum_by-append placed.row_weight (children_of c id place) (beneath_at id place (fold_all_children walk_children walk_row rest))
      ∙ (λ i. child_same c id place i + all_same rest id place i)

  child_same : (c : Children) (id place : List ℕ) → placed.rows_weight (children_of c id place) ≡ store.children_weight c
  child_same (Children' path n rows) id place = rows_same rows path 0 id place

  rows_same : {n : _} (rs : Row_of-Row n) (path k : ℕ) (id place : List ℕ) → placed.rows_weight (rows_at path id place k (fold_rows walk_children walk_row rs)) ≡ store.rows_weight rs
  rows_same end_of-Row path k id place = refl
  rows_same (more_of-Row r rest) path k id place =
      sum_by-append placed.row_weight (rows_of r (path + 1) id (place ++ path ∷ k ∷ [])) (rows_at path id place (k + 1) (fold_rows walk_children walk_row rest))
      ∙ (λ i. row_same r (path + 1) id (place ++ path ∷ k ∷ []) i + rows_same rest path (k + 1) id place i)

weigh_from : (k : ℕ) (ds : List Document) → placed.rows_weight (rows_from k ds) ≡ sum_by store.weight ds
weigh_from k [] = refl
weigh_from k (d ∷ ds) =
    sum_by-append placed.row_weight (rows_of d.root 0 d.id (k ∷ [])) (rows_from (k + 1) ds)
    ∙ (λ i. row_same d.root 0 d.id (k ∷ []) i + weigh_from (k + 1) ds i)
    ∙ sym (sum_by-cons store.weight d ds)

pub weights_agree : (ds : List Document) → placed.rows_weight (rows_of_documents ds) ≡ sum_by store.weight ds
weights_agree ds = weigh_from 0 ds
