use Rattle.std.proofs.Common.{sym, subst}
use Rattle.agg_model.specs.declared.breaker.Totals.{Totals}
use Rattle.agg_spec.specs.Columns.{columns_charge}
use Rattle.agg_spec.specs.Statistics.{AreTotals}
use Rattle.fitting_laws.specs.Indexes.{index_of}
use Rattle.wave_answerer.proofs.Totals.{crew-totals}
use Rattle.wave_answerer.proofs.crew.CrewAnswerer.close.Goals as goal

pub returns : goal.returns
returns c = λ recent may.
    let crew = c.args.self in
    let index = index_of crew.index in
    subst (λ (t : Totals). AreTotals recent.settings index (columns_charge index) recent.rounds t) (sym c.close.ensures)
    (rw c.look-held.ensures.same (crew-totals crew.settings index (columns_charge index) crew.pass.view recent crew.words.limits crew.several crew.idle.limits_are
    c.look-held.ensures.bounded may.settings_are may.rounds_are))
