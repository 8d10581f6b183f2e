use Rattle.agg_model.specs.declared.breaker.Which.TheVariants as at
use Rattle.breaker_words.specs.Views.{hold_of}
use Rattle.solo_answerer.proofs.Idle.{opened-idle, still-for-one}
use Rattle.solo_answerer.proofs.worker.WorkerAnswerer.reopen.Goals as goal

pub invariant_of-result : goal.invariant_of-result
invariant_of-result c =
    let worker = c.args.self in
    let range = c.requires.in_range worker.in_range in
    record {
      idle = opened-idle c.args.settings worker.index c.in-Done.words c.in-Done.pass (hold_of worker.pass.view at.Fielddata) c.in-Done.ensures.1 range worker.idle.columns;
      for_one = still-for-one worker.settings c.args.settings worker.for_one c.requires.same_workers c.requires.same_width;
      in_range = range;
    }
