use Rattle.std.proofs.Common.{sym, subst}
use Rattle.fitting_laws.specs.Indexes.{index_of}
use Rattle.agg_model.specs.declared.breaker.Totals.{Totals}
use Rattle.agg_spec.specs.Columns.{columns_charge}
use Rattle.agg_spec.specs.Statistics.{AreTotals}
use Rattle.solo_answerer.proofs.Totals.{worker-totals}
use Rattle.solo_answerer.proofs.worker.WorkerAnswerer.close.Goals as goal

pub returns : goal.returns
returns c = λ recent may.
    let worker = c.args.self in
    let index = index_of worker.index in
    subst (λ (t : Totals). AreTotals recent.settings index (columns_charge index) recent.rounds t) (sym c.close.ensures)
    (worker-totals worker.settings index (columns_charge index) worker.pass.view recent worker.words.limits worker.for_one worker.idle.limits_are may.settings_are may.rounds_are)
