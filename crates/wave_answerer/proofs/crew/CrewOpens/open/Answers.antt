use Rattle.std.proofs.Common.{refl}
use Rattle.agg_spec.specs.Columns.{columns_charge}
use Rattle.fitting_laws.specs.Indexes.{index_of}
use Rattle.solo_answerer.proofs.Idle.{opened-idle}
use Rattle.solo_answerer.proofs.Refusals.{few-columns}
use Rattle.wave_answerer.proofs.Opened.{nothing-answered}
use Rattle.wave_answerer.proofs.crew.CrewOpens.open.Goals as goal

pub invariant_of-result : goal.invariant_of-result
invariant_of-result c = record {
  idle = opened-idle c.args.settings c.args.index c.args.words c.args.pass (columns_charge (index_of c.args.index)) c.requires.charged.holds c.requires.in_range refl;
  several = c.requires.takes;
  in_range = c.requires.in_range;
}

pub returns-clause-answered : goal.returns-clause-answered
returns-clause-answered c =
    let columns = columns_charge (index_of c.args.index) in
    nothing-answered c.args.settings.limits columns c.args.words c.args.pass (index_of c.args.index) c.requires.charged.holds
    (few-columns c.args.settings.limits columns c.requires.charged.light c.requires.in_range.limits.fielddata)
