-- What a shard is built from: a mapping such as an index line gives it, and documents that fit it, nested documents
-- included (Elasticsearch Reference 8, 'Mapping', 'Nested field type').
use Rattle.std.specs.Prelude.{◌≡◌, ◌+◌, ◌<◌, ◌≤◌, List, map, length, IsTrue}
use Rattle.agg_model.specs.declared.limits.TheConstants.{MAX_PATHS, WEIGHT_LIMIT}
use Rattle.agg_model.specs.declared.mapping.Mapping.{Mapping}
use Rattle.agg_model.specs.declared.row.Document.{Document}
use Rattle.agg_model.specs.Contexts.{parents_before}
use Rattle.agg_evaluation.specs.DocumentFits.{all_fit}
use Rattle.agg_evaluation.specs.Rows.{rows_of_documents}
use Rattle.agg_evaluation.specs.RowsWeight.{rows_weight}
use Rattle.shard_columns.specs.Columns.{Columns}

-- what callers see of a shard that is built from these
abbrev pub columns_from : Mapping → List Document → Columns
columns_from m documents = record {
  kinds = map (λ f. f.kind) m.fields;
  contexts = map (λ f. f.context) m.fields;
  parents = map (λ p. p.parent) m.nested;
  rows = rows_of_documents documents;
}

-- The mapping has at most MAX_PATHS fields and nested paths, each path behind the one around it. The documents fit it, and
-- their rows, values and bytes of words are fewer than WEIGHT_LIMIT together.
pub record IsBuiltFrom (m : Mapping) (documents : List Document) (shard : Columns) : Type 0 where
  pub few : length m.fields + length m.nested ≤ MAX_PATHS
  pub paths : IsTrue (parents_before m)
  pub fit : IsTrue (all_fit m documents)
  pub light : rows_weight (rows_of_documents documents) < WEIGHT_LIMIT
  pub columns_are : shard ≡ columns_from m documents

-- a shard of this mapping
abbrev pub IsShardOf : Mapping → Columns → Type 0
IsShardOf m shard = ∥ ((documents : List Document) × IsBuiltFrom m documents shard) ∥₁

-- a shard of some mapping
abbrev pub IsShard : Columns → Type 0
IsShard shard = ∥ ((m : Mapping) × IsShardOf m shard) ∥₁
