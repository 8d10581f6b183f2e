use Rattle.std.proofs.Common.{ap, refl, []}
use Rattle.agg_base.proofs.Gave.{gave_nothing}
use Rattle.agg_model.specs.declared.settings.Settings.{Settings}
use Rattle.agg_spec.specs.Answers.{Recent}
use Rattle.script_run.specs.declared.status.Status.TheVariants as status
use Rattle.script_run.proofs.Loaded.{answered-behind, first-stops, wrote-first}
use Rattle.script_run.proofs.answering.answer_loaded.Goals as goal

pub returns-in-Err-clause-output : goal.returns-in-Err-clause-output
returns-in-Err-clause-output g c = λ bytes before is known.
    let puts = rw known at c.in-Err.ensures.puts in
    rw c.ended.ensures
    (first-stops c.args.settings bytes before _ _ _ _ _ _ _ is c.requires.charged.light _ c.in-Err.stop status.Memory c.is_some-is_generated.result c.is_some-is_generated.ensures puts)

pub returns-clause-output : goal.returns-clause-output
returns-clause-output g c = λ bytes before is known.
    let puts = rw known at c.in_default.ensures.puts in
    let wrote = wrote-first c.args.settings bytes before _ 0 _ _ _ _ _ is c.requires.charged.light _ c.is_some-is_generated.result c.is_some-is_generated.ensures puts in
    let opened = c.open-answerer.ensures in
    let recent : Recent = record { settings = g.A.Answerer.in_force c.open-answerer.result; rounds = [] } in
    rw c.status_of.ensures
    (answered-behind c.args.settings bytes before _ _ _ _ _ _ _ is c.requires.charged.light _ _ wrote c.answer_script.result
    (record {
      index = g.A.Answerer.index c.open-answerer.result;
      columns = g.A.Answerer.columns c.open-answerer.result;
      recent = recent;
      output = λ whole goes. c.answer_script.ensures.output recent (record { settings_are = refl; rounds_are = opened.answered }) bytes whole goes;
    }) opened.index opened.columns (ap (λ (s : Settings). record { settings = s; rounds = [] }) opened.in_force) c.requires.in_range.some_search)

pub returns-in-Err-clause-gave : goal.returns-in-Err-clause-gave
returns-in-Err-clause-gave g c = gave_nothing
