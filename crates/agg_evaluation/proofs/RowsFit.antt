-- The rows of documents that fit fit each by itself.
use Rattle.std.specs.Prelude.{◌≡◌, refl, ℕ, ◌+◌, ◌<◌, ◌≤◌, List, [], ◌∷◌, ◌++◌, map, flat_map, length, slice_get, Some, None, true, false, ◌&&◌, ◌==◌, nat_le}
use Rattle.std.specs.List.{enumerate_from}
use Rattle.std.specs.Option.{option_map_or}
use Rattle.std.proofs.Common.{◌∙◌, arith}
use Rattle.std.proofs.lemmas.Bool.{false≢true, and_parts, and_from}
use Rattle.std.proofs.lemmas.Bool.Decides.{nat_tests}
use Rattle.std.proofs.lemmas.List.Folds.{list_all-append}
use Rattle.std.proofs.lemmas.Option.{slice_get_within}
use Rattle.agg_model.specs.declared.mapping.Mapping.{Mapping}
use Rattle.agg_model.specs.declared.row.Row.{Row, Row', Row_of-Children, end_of-Children, more_of-Children}
use Rattle.agg_model.specs.declared.row.Children.{Children, Children', Row_of-Row, end_of-Row, more_of-Row}
use Rattle.agg_model.specs.declared.row.Document.{Document}
use Rattle.agg_evaluation.specs.Folds.{fold_rows, fold_all_children, fold_children}
use Rattle.agg_evaluation.specs.Rows.{PlacedRow, Walk, walk_children, walk_row, rows_of, rows_of_documents}
use Rattle.agg_evaluation.specs.DocumentFits.{path_of, fields_fit, is_path_of, row_fits, children_fit, child_fits, rows_fit, fits, all_fit}
use Rattle.agg_evaluation.specs.PlacedFits.{placed_fits, rows_placed}

-- the rows of a path, numbered from k
abbrev pub rows_at : ℕ → List ℕ → List ℕ → ℕ → List (ℕ → Walk) → List PlacedRow
rows_at path id place k ws = flat_map (λ (r : ℕ × (ℕ → Walk)). r.1 (path + 1) id (place ++ path ∷ r.0 ∷ [])) (enumerate_from k ws)

abbrev pub beneath_at : List ℕ → List ℕ → List Walk → List PlacedRow
beneath_at id place ws = flat_map (λ c. c id place) ws

-- the rows of documents that are numbered from k
abbrev pub rows_from : ℕ → List Document → List PlacedRow
rows_from k ds = flat_map (λ (d : ℕ × (List ℕ × Row)). rows_of d.1.1 0 d.1.0 (d.0 ∷ [])) (enumerate_from k (map (λ (d : Document). (d.id, d.root)) ds))

path_below : (m : Mapping) (context path : ℕ) → is_path_of m context path ≡ true → path < length m.nested
path_below m context path h =
    elim (slice_get m.nested path) as (λ o. slice_get m.nested path ≡ o → option_map_or (λ p. p.parent == context) o false ≡ true → path < length m.nested) [
      | None ↦ λ e k. absurd (false≢true k)
      | Some p ↦ λ e k. slice_get_within m.nested path p e
    ] refl h

module _ (m : Mapping) where
  mutual
    row_placed : (r : Row) (context : ℕ) (id place : List ℕ) → context ≤ length m.nested → row_fits m context r ≡ true → rows_placed m (rows_of r context id place) ≡ true
    row_placed (Row' values n children) context id place low h =
        let parts = and_parts (fields_fit m context 0 values) (children_fit m context 0 children) h in
        and_from _ _ (and_from (nat_le context (length m.nested)) _ (grind (arith, nat_tests, low)) parts.0) (all_placed children context 0 id place parts.1)

    all_placed : {n : _} (cs : Row_of-Children n) (context least : ℕ) (id place : List ℕ) → children_fit m context least cs ≡ true → rows_placed m (beneath_at id place (fold_all_children walk_children walk_row cs)) ≡ true
    all_placed end_of-Children context least id place h = refl
    all_placed (more_of-Children c rest) context least id place h =
        let first = and_parts (nat_le least (path_of c)) (child_fits m context c && children_fit m context (path_of c + 1) rest) h in
        let parts = and_parts (child_fits m context c) (children_fit m context (path_of c + 1) rest) first.1 in
        list_all-append (placed_fits m) (fold_children walk_children walk_row c id place) (beneath_at id place (fold_all_children walk_children walk_row rest))
        ∙ and_from _ _ (child_placed c context id place parts.0) (all_placed rest context (path_of c + 1) id place parts.1)

    child_placed : (c : Children) (context : ℕ) (id place : List ℕ) → child_fits m context c ≡ true → rows_placed m (fold_children walk_children walk_row c id place) ≡ true
    child_placed (Children' path n rows) context id place h =
        let parts = and_parts (is_path_of m context path) (rows_fit m (path + 1) rows) h in
        rows_of_path rows path 0 id place (path_below m context path parts.0) parts.1

    rows_of_path : {n : _} (rs : Row_of-Row n) (path k : ℕ) (id place : List ℕ) → path < length m.nested → rows_fit m (path + 1) rs ≡ true → rows_placed m (rows_at path id place k (fold_rows walk_children walk_row rs)) ≡ true
    rows_of_path end_of-Row path k id place low h = refl
    rows_of_path (more_of-Row r rest) path k id place low h =
        let parts = and_parts (row_fits m (path + 1) r) (rows_fit m (path + 1) rest) h in
        list_all-append (placed_fits m) (rows_of r (path + 1) id (place ++ path ∷ k ∷ [])) (rows_at path id place (k + 1) (fold_rows walk_children walk_row rest))
        ∙ and_from _ _ (row_placed r (path + 1) id (place ++ path ∷ k ∷ []) (omega (arith, low)) parts.0) (rows_of_path rest path (k + 1) id place low parts.1)

  placed_from : (k : ℕ) (ds : List Document) → all_fit m ds ≡ true → rows_placed m (rows_from k ds) ≡ true
  placed_from k [] h = refl
  placed_from k (d ∷ ds) h =
      let parts = and_parts (fits m d.root) (all_fit m ds) h in
      list_all-append (placed_fits m) (rows_of d.root 0 d.id (k ∷ [])) (rows_from (k + 1) ds)
      ∙ and_from _ _ (row_placed d.root 0 d.id (k ∷ []) (omega arith) parts.0) (placed_from (k + 1) ds parts.1)

  pub rows_fit_placed : (ds : List Document) → all_fit m ds ≡ true → rows_placed m (rows_of_documents ds) ≡ true
  rows_fit_placed ds h = placed_from 0 ds h
