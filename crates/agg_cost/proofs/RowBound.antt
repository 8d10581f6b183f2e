-- The ceiling of an aggregation taken apart: the bytes of a node over no row, and the bytes that each path to a row adds
-- (Elasticsearch Reference 8, 'Circuit breaker settings').
use Rattle.std.specs.Prelude.{ℕ, ◌+◌, ◌*◌, List, [], ◌∷◌, map, length, sum, sum_by}
use Rattle.agg_model.specs.declared.costs.TheConstants.{BUCKET_BYTES, NODE_BYTES}
use Rattle.agg_model.specs.declared.mapping.FieldKind.{FieldKind}
use Rattle.agg_model.specs.declared.aggregation.Agg.{Agg}
use Rattle.agg_model.specs.declared.aggregation.Agg.TheOpen.{Agg-F}
use Rattle.agg_model.specs.declared.aggregation.Kind.{Kind}
use Rattle.agg_evaluation.specs.Folds.{fold_agg}
use Rattle.agg_evaluation.specs.Rows.{PlacedRow}
use Rattle.agg_evaluation.specs.Keys.{keys}
use Rattle.agg_evaluation.specs.Groups.{under}
use Rattle.agg_evaluation.specs.Shard.{fixed_keys}
use Rattle.agg_evaluation.specs.Whole.{Shape, by_key, from_start, shape_of}
use Rattle.agg_evaluation.specs.Ceiling.{key_bound}

-- what the bound of an aggregation is made of
pub record BoundParts : Type 0 where
  -- the bytes of one node over no row
  pub empty : ℕ
  -- the bytes that one path to a row adds
  pub of_row : PlacedRow → ℕ

-- the bytes of buckets that exist from the start, given those of one bucket
abbrev pub started_bytes : Kind → Shape → ℕ → ℕ
started_bytes k from_start bucket = length (fixed_keys k) * bucket
started_bytes k _ bucket = 0

-- the bytes of the bucket to which a path leads, given those of one bucket: the others are counted with the node
abbrev pub path_bytes : Shape → ℕ → ℕ
path_bytes by_key bucket = bucket
path_bytes _ bucket = 0

-- `kinds` are the kinds of the mapping's fields, and `all` the rows of the shard
module _ (kinds : List FieldKind) (all : List PlacedRow) where
  -- a bucket with its key and, below it, a node of each child over no row
  abbrev pub bucket_bytes : Kind → List BoundParts → ℕ
  bucket_bytes k children = BUCKET_BYTES + key_bound kinds all k + sum (map (λ c. c.empty) children)

  abbrev pub bound_parts_at : Agg-F BoundParts → BoundParts
  bound_parts_at a =
      let bucket = bucket_bytes a.kind a.children in
      let path = path_bytes (shape_of a.kind) bucket in
      record {
        empty = NODE_BYTES + started_bytes a.kind (shape_of a.kind) bucket;
        of_row = λ row. sum_by (λ r. length (keys all a.kind r) * (path + sum (map (λ c. c.of_row r) a.children))) (under all (row ∷ []) a.kind (row ∷ []));
      }

  abbrev pub bound_parts : Agg → BoundParts
  bound_parts = fold_agg bound_parts_at
