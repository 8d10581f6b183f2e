use Rattle.std.proofs.Common.{refl}
use Rattle.fitting_laws.specs.Indexes.{index_of}
use Rattle.agg_spec.specs.Columns.{columns_charge}
use Rattle.solo_answerer.proofs.Idle.{opened-idle}
use Rattle.solo_answerer.proofs.worker.WorkerOpens.open.Goals as goal

pub invariant_of-result : goal.invariant_of-result
invariant_of-result c = record {
  idle = opened-idle c.args.settings c.args.index c.args.words c.args.pass (columns_charge (index_of c.args.index)) c.requires.charged.holds c.requires.in_range refl;
  for_one = c.requires.takes;
  in_range = c.requires.in_range;
}
