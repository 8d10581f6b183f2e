-- The values that a row of a shard has of a field ascend, and words are distinct.
use Rattle.std.specs.Prelude.{◌≡◌, ℕ, true}
use Rattle.std.proofs.Common.{ap, ◌∙◌}
use Rattle.agg_evaluation.specs.DocumentFits.{ascend}
use Rattle.agg_evaluation.specs.Rows.{values_of, row_of}
use Rattle.agg_model.specs.declared.row.Document.{Document}
use Rattle.agg_model.specs.declared.mapping.Mapping.{Mapping}
use Rattle.std.specs.Prelude.{List}
use Rattle.shard_columns.specs.Built.{IsBuiltFrom}
use Rattle.shard_columns.specs.Columns.{Columns}
use Rattle.shard_columns.proofs.Givens.{ascend_rows}

pub values-ascend : (m : Mapping) (documents : List Document) (shard : Columns) → IsBuiltFrom m documents shard → (field n : ℕ) → ascend (values_of field (row_of shard.rows n)) ≡ true
values-ascend m documents shard built field n =
    ap (λ (c : Columns). ascend (values_of field (row_of c.rows n))) built.columns_are ∙ ascend_rows m documents built.fit field n
