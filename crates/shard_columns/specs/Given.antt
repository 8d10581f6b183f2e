-- What the columns of a shard are made on: what holds of the rows of documents that fit their mapping.
use Rattle.std.specs.Prelude.{◌≡◌, ℕ, ◌<◌, ◌≤◌, List, [], ◌∷◌, map, length, slice_get, Some, IsTrue}
use Rattle.std.specs.List.Sorted.{IsStrictlyIncreasing}
use Rattle.agg_model.specs.declared.limits.TheConstants.{MAX_PATHS, WEIGHT_LIMIT}
use Rattle.agg_model.specs.declared.mapping.FieldKind.{FieldKind}
use Rattle.agg_model.specs.declared.mapping.Mapping.{Mapping}
use Rattle.agg_model.specs.declared.row.Document.{Document}
use Rattle.agg_evaluation.specs.Rows.{PlacedRow, row_of, rows_of_documents}
use Rattle.shard_columns.specs.Values.{FieldsBelow}
use Rattle.shard_columns.specs.Kinds.{AreOfKind}
use Rattle.shard_columns.specs.Rising.{documents_rise}
use Rattle.agg_evaluation.specs.RowsWeight.{rows_weight}

-- the fields of each row are fields of the mapping, of which there are n
unfoldable pub RowsBelow : ℕ → List PlacedRow → Type 0
RowsBelow n [] = Unit {0}
RowsBelow n (r ∷ rs) = FieldsBelow n r.values × RowsBelow n rs

-- the fields of each row ascend
abbrev pub FieldsRise : List PlacedRow → Type 0
FieldsRise rows = (n : ℕ) → IsStrictlyIncreasing (map (λ v. v.field) (row_of rows n).values)

-- the values of each field are of its kind
abbrev pub KindsHold : List FieldKind → List PlacedRow → Type 0
KindsHold kinds rows = (field : ℕ) (kind : FieldKind) → slice_get kinds field ≡ Some kind → AreOfKind kind field rows

-- Fields and nested paths ascend, each value is of its field's kind, and there are few of all.
pub record IsGiven (mapping : Mapping) (documents : List Document) : Type 0 where
  pub fields : RowsBelow (length mapping.fields) (rows_of_documents documents)
  pub rising : FieldsRise (rows_of_documents documents)
  pub kinds : KindsHold (map (λ f. f.kind) mapping.fields) (rows_of_documents documents)
  pub contexts : (n : ℕ) → (row_of (rows_of_documents documents) n).context ≤ length mapping.nested
  pub paths : IsTrue (documents_rise documents)
  pub few_fields : length mapping.fields ≤ MAX_PATHS
  pub few_paths : length mapping.nested ≤ MAX_PATHS
  pub light : rows_weight (rows_of_documents documents) < WEIGHT_LIMIT
