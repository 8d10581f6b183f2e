-- The rules between an aggregation and what stands below it.
use Rattle.std.specs.Prelude.{ℕ, List, [], Bool, Ok}
use Rattle.serde_json.specs.Data.{Members}
use Rattle.agg_model.specs.declared.aggregation.Order.{Order}
use Rattle.agg_model.specs.declared.pipeline.Pipe.{Pipe}
use Rattle.agg_reading.specs.declared.names.KindName.{KindName}
use Rattle.agg_reading.specs.declared.parts.NamedOrder.{NamedOrder}
use Rattle.agg_reading.specs.declared.pipes.Siblings.{Siblings}
use Rattle.agg_reading.specs.Reading.{Reading, ◌>>=◌, ◌>>◌}
use Rattle.agg_reading.specs.Orders.{resolved}
use Rattle.agg_reading.specs.PipePaths.{around_of, fitted_pipes}
use Rattle.agg_reading.specs.Request.{placed}

-- the place of the aggregation is tried, then its orders are resolved, and then its pipelines
unfoldable pub fitted : Bool → KindName → List ℕ → Members → List NamedOrder → Siblings → Reading (List Order × List Pipe)
fitted top kind at ms named children = do
  placed top kind at ms children
  orders ← resolved children.aggs [] named
  pipes ← fitted_pipes (around_of kind) children.aggs children.pipes
  Ok (orders, pipes)
