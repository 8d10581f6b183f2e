-- The rows of a shard as one list: the root of each document, and each of its nested documents, which is a row of its own
-- (Elasticsearch Reference 8, 'Nested field type').
use Rattle.std.specs.Prelude.{ℕ, ◌+◌, ◌==◌, ◌&&◌, Bool, List, [], ◌∷◌, ◌++◌, filter, flat_map, map, nat_eq, unwrap_or, option_map, find, true, slice_index_or}
use Rattle.std.specs.List.{list_any, enumerate_from, starts_with}
use Rattle.agg_model.specs.declared.row.Scalar.{Scalar}
use Rattle.agg_model.specs.declared.row.FieldValues.{FieldValues}
use Rattle.agg_model.specs.declared.row.Row.{Row}
use Rattle.agg_model.specs.declared.row.Document.{Document}
use Rattle.agg_model.specs.declared.row.Children.TheOpen.{Row-F, Children-F}
use Rattle.agg_evaluation.specs.Folds.{fold_row}

-- A row with its place: the number of its document in the shard, then a path and a number at each level, so that it begins
-- with the places of all rows that enclose it. Its context is 0 at a root, and i + 1 at the i-th nested path of the mapping.
pub record PlacedRow : Type 0 where
  pub place : List ℕ
  pub context : ℕ
  pub id : List ℕ
  pub values : List FieldValues

-- the rows that lie at a place of the document with an id: first the id, then the place
abbrev pub Walk : Type 0
Walk = List ℕ → List ℕ → List PlacedRow

-- the n-th row of a nested path lies at the place of its parent, followed by the path and n
abbrev pub walk_children : Children-F Walk (ℕ → Walk) → Walk
walk_children c id place = flat_map (λ r. r.1 (c.path + 1) id (place ++ c.path ∷ r.0 ∷ [])) (enumerate_from 0 c.rows)

abbrev pub walk_row : Row-F Walk (ℕ → Walk) → ℕ → Walk
walk_row r context id place = record { place = place; context = context; id = id; values = r.values } ∷ flat_map (λ c. c id place) r.children

-- a row of a context and all rows below it, each before those that it encloses
abbrev pub rows_of : Row → ℕ → Walk
rows_of = fold_row walk_children walk_row

-- the rows of a shard's documents, which are given as ids and root rows
abbrev pub shard_rows : List (List ℕ × Row) → List PlacedRow
shard_rows documents = flat_map (λ d. rows_of d.1.1 0 d.1.0 (d.0 ∷ [])) (enumerate_from 0 documents)

-- the rows of these documents
abbrev pub rows_of_documents : List Document → List PlacedRow
rows_of_documents documents = shard_rows (map (λ d. (d.id, d.root)) documents)

abbrev pub roots : List PlacedRow → List PlacedRow
roots all = filter (λ r. r.context == 0) all

-- whether the first row is the second or lies below it
abbrev pub is_within : PlacedRow → PlacedRow → Bool
is_within inner outer = starts_with nat_eq inner.place outer.place

-- all rows of the context within a row, in order
abbrev pub beneath : List PlacedRow → ℕ → PlacedRow → List PlacedRow
beneath all context outer = filter (λ r. (r.context == context) && is_within r outer) all

-- the rows of the context that enclose one of these, each once and in order
abbrev pub enclosing : List PlacedRow → ℕ → List PlacedRow → List PlacedRow
enclosing all context inner = filter (λ r. (r.context == context) && list_any (λ i. is_within i r) inner) all

-- the values that a row has of a field
abbrev pub values_of : ℕ → PlacedRow → List Scalar
values_of field row = unwrap_or (option_map (λ v. v.values) (find (λ v. v.field == field) row.values)) []

abbrev pub has_value : ℕ → PlacedRow → Bool
has_value field row = list_any (λ v. true) (values_of field row)

-- what stands for a row that is not there
abbrev pub no_row : PlacedRow
no_row = record { place = []; context = 0; id = []; values = [] }

-- the row of this number
abbrev pub row_of : List PlacedRow → ℕ → PlacedRow
row_of rows n = slice_index_or rows n no_row
