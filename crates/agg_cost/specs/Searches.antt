-- What is asked of the shards of an index that searches run over ('Search API'), and the ceilings of their tasks.
use Rattle.std.specs.Prelude.{◌≡◌, ◌≤◌, ⊤, ℕ, List, [], ◌∷◌, Option, Some, flat_map, map, slice_get}
use Rattle.agg_evaluation.specs.Ceiling.{ceiling}
use Rattle.agg_evaluation.specs.Counted.{IsApart}
use Rattle.agg_evaluation.specs.Rows.{PlacedRow}
use Rattle.agg_model.specs.declared.aggregation.Search.{Search}
use Rattle.agg_model.specs.declared.mapping.FieldKind.{FieldKind}
use Rattle.agg_model.specs.declared.mapping.Mapping.{Mapping}
use Rattle.shard_columns.specs.Columns.{Columns}

abbrev pub kinds_of : Mapping → List FieldKind
kinds_of m = map (λ f. f.kind) m.fields

-- in each shard no row lies below two rows of one context
abbrev pub AreApart : List Columns → Type 0
AreApart shards = (place : ℕ) (shard : Columns) → slice_get shards place ≡ Some shard → IsApart shard.rows

-- the ceiling of each task, search by search and shard by shard
abbrev pub task_ceilings : List FieldKind → List Search → List (List PlacedRow) → List (Option ℕ)
task_ceilings kinds searches shards = flat_map (λ search. map (ceiling kinds search) shards) searches

-- a room for each of these tasks: each has a ceiling, and room for that at least
abbrev pub AreRoomsFor : List ℕ → List (Option ℕ) → Type 0
AreRoomsFor [] [] = ⊤
AreRoomsFor (room ∷ rooms) (Some ceiling ∷ ceilings) = (ceiling ≤ room) × AreRoomsFor rooms ceilings
AreRoomsFor _ _ = ⊥
