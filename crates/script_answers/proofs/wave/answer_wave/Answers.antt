use Rattle.std.proofs.Common.{◌≤◌, refl, sym, subst, length, map}
use Rattle.std.proofs.lemmas.List.{length-map}
use Rattle.std.proofs.lemmas.Result.{err_from_is_err_and}
use Rattle.agg_model.specs.declared.settings.Settings.{Settings}
use Rattle.agg_spec.specs.Requests.{request_of}
use Rattle.script_answers.proofs.Waving.{wave-none, wave-answered, wave-wants, some-items}
use Rattle.script_answers.proofs.wave.answer_wave.Goals as goal

pub returns-then-is_empty-clause-puts : goal.returns-then-is_empty-clause-puts
returns-then-is_empty-clause-puts g c =
    let none = c.is_empty.ensures.0 c.if-is_empty.true in
    rw none (λ recent may. (recent, wave-none _ _ recent _ (subst (λ (s : Settings). 1 ≤ s.width) (sym may.settings_are) c.requires.some), may))

pub returns-in_err-answers-clause-puts : goal.returns-in_err-answers-clause-puts
returns-in_err-answers-clause-puts g c =
    let p = err_from_is_err_and c.from_residual.result c.from_residual.ensures.1 in
    let requests = map (request_of (g.A.Answerer.index c.args.answerer.now)) c.args.bodies.now in
    let same = length-map c.args.bodies.now (request_of (g.A.Answerer.index c.args.answerer.now)) in
    rw (p.1, p.2) (λ recent may. (
      recent,
      wave-wants _ _ recent requests recent _ _ (subst (λ n. 1 ≤ n) (sym same) (some-items c.is_empty.result c.args.bodies.now c.is_empty.ensures c.if-is_empty.false))
          (subst (λ n. n ≤ recent.settings.width) (sym same) (subst (λ (s : Settings). length c.args.bodies.now ≤ s.width) (sym may.settings_are) c.requires.few)) refl,
      tt,
    ))

pub returns-clause-puts : goal.returns-clause-puts
returns-clause-puts g c = λ recent may.
    let answers = c.in_ok-answers.ensures in
    wave-answered _ _ recent _ _ _ _ _ _ _ _ (answers.rounds recent may) c.write_answers.ensures.puts answers.same_settings may.settings_are
