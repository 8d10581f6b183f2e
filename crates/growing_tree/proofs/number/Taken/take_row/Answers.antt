use Rattle.std.proofs.Common.{◌∙◌, sym, ap, ◌++◌}
use Rattle.agg_evaluation.specs.Keys.{values_or}
use Rattle.agg_evaluation.specs.Rows.{row_of}
use Rattle.agg_evaluation.specs.Shard.{metric_of}
use Rattle.growth_laws.specs.Growth.{with_values}
use Rattle.growth_laws.proofs.Metrics.{metric-append}
use Rattle.growing_tree.proofs.number.Taken.take_row.Goals as goal

pub returns : goal.returns
returns c =
    let was = c.self.invariant in
    let row = row_of c.args.shard.now.rows c.args.row in
    let values = values_or c.args.field c.args.missing.now row in
    c.take.ensures.values was.seen was.is ∙ ap (λ o. metric_of (was.seen ++ values_or c.args.field o row)) c.cell_of.ensures
    ∙ metric-append was.seen values ∙ ap (with_values values) (sym was.is ∙ c.self.view_is)
