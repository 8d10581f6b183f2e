-- What callers see of a shard: of its mapping the kinds and contexts of the fields and the parents of the nested paths,
-- and its rows with their places.
use Rattle.std.specs.Prelude.{ℕ, List}
use Rattle.agg_model.specs.declared.mapping.FieldKind.{FieldKind}
use Rattle.agg_evaluation.specs.Rows.{PlacedRow}

pub record Columns : Type 0 where
  pub kinds : List FieldKind
  pub contexts : List ℕ
  pub parents : List ℕ
  pub rows : List PlacedRow
