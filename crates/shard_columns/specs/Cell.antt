-- A value that a shard lends, as the value itself.
use Rattle.agg_model.specs.declared.row.Scalar.{Scalar}
use Rattle.agg_model.specs.declared.row.Scalar.TheVariants as scalar
use Rattle.shard_columns.specs.declared.shard.Cell.{Cell}
use Rattle.shard_columns.specs.declared.shard.Cell.TheVariants as cell

abbrev pub scalar_of : Cell → Scalar
scalar_of (cell.Whole n) = scalar.Whole n
scalar_of (cell.Word w) = scalar.Word w.now
scalar_of (cell.Flag b) = scalar.Flag b
