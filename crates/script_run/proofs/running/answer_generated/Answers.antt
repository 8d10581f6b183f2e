use Rattle.std.proofs.Common.{Some, ap, ◌∙◌}
use Rattle.agg_spec.specs.Generator.{generated}
use Rattle.script_answers.proofs.Putting.{same-bytes}
use Rattle.script_run.proofs.Unloaded.{wanting-ends}
use Rattle.script_run.proofs.running.answer_generated.Goals as goal

pub returns-in_default-clause-output : goal.returns-in_default-clause-output
returns-in_default-clause-output g c = λ before known. (0, wanting-ends c.args.settings (generated c.args.generate.now) 0 _ _ (same-bytes _ _ _ known))

pub returns-clause-output : goal.returns-clause-output
returns-clause-output g c = λ before known.
    let wrote = c.answer_source.ensures.output (generated c.args.generate.now) before (ap Some (c.new-source.ensures ∙ c.in-Ok.ensures)) known in (wrote.0, wrote.2)
