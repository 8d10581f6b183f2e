use Rattle.std.proofs.Common.{Option, ap, sym}
use Rattle.std.specs.Option.{option_map_or}
use Rattle.agg_model.specs.declared.settings.Generate.{Generate}
use Rattle.agg_spec.specs.Generator.{generated}
use Rattle.script_run.proofs.WholeRuns.{script-runs, unread-wrote}
use Rattle.script_run.proofs.running.answer_settings.Goals as goal

pub returns-in-Some-clause-output : goal.returns-in-Some-clause-output
returns-in-Some-clause-output g c = λ several words input before given left known.
    let wrote = c.answer_generated.ensures.output before known in
    script-runs several words input _ _ _ 0 left c.args.settings given (generated c.in-Some.generate)
    (ap (λ (o : Option Generate). option_map_or generated o input) (sym c.in-Some.is)) c.answer_generated.result
    (unread-wrote c.args.settings (generated c.in-Some.generate) wrote.0 _ _ c.answer_generated.result c.answer_generated.ensures.unread wrote.1)
    (λ unread. absurd (c.answer_generated.ensures.unread unread))

pub returns-in-None-clause-output : goal.returns-in-None-clause-output
returns-in-None-clause-output g c = λ several words input before given left known.
    let wrote = c.answer_source.ensures.output input before left known in
    script-runs several words input _ _ _ wrote.0 wrote.1 c.args.settings given input
    (ap (λ (o : Option Generate). option_map_or generated o input) (sym c.in-None.is)) c.answer_source.result wrote.2 (λ unread. c.in-None.is)
