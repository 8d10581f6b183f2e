use Rattle.std.proofs.Common.{sym, ◌∙◌}
use Rattle.agg_evaluation.specs.Rows.{values_of, row_of}
use Rattle.shard_columns.specs.Cell.{scalar_of}
use Rattle.column_query.specs.Wanted.{wants}
use Rattle.column_query.proofs.Lists.{none_more, one_is_enough}
use Rattle.column_query.proofs.values.has_wanted.Goals as goal

pub returns-then-wants : goal.returns-then-wants
returns-then-wants c =
    sym (one_is_enough (wants c.args.wanted) (values_of c.args.field (row_of c.args.shard.now.rows c.args.row)) c.loop-place.place (scalar_of c.value.result) c.value.ensures (sym c.wants.ensures ∙ c.if-wants.true))

pub loop-place-preserved : goal.loop-place-preserved
loop-place-preserved c =
    none_more (wants c.args.wanted) (values_of c.args.field (row_of c.args.shard.now.rows c.args.row)) c.loop-place.place (scalar_of c.value.result) c.value.ensures c.loop-place.invariant (sym c.wants.ensures ∙ c.if-wants.false)
