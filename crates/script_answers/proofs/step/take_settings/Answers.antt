use Rattle.std.proofs.Common.{◌∷◌, [], refl}
use Rattle.std.proofs.lemmas.Result.{err_from_is_err_and}
use Rattle.agg_spec.specs.Written.{Line}
use Rattle.script_answers.specs.Outputs.{so_far}
use Rattle.script_answers.specs.Puts.{Stops}
use Rattle.script_answers.specs.Steps.{WroteLines}
use Rattle.script_answers.proofs.Ending.{wave-stops-change, change-stops, change-taken}
use Rattle.script_answers.proofs.Widths.{line-as}
use Rattle.script_answers.proofs.step.take_settings.Goals as goal

pub returns-in_err-answer_wave-clause-stops : goal.returns-in_err-answer_wave-clause-stops
returns-in_err-answer_wave-clause-stops g c =
    let p = err_from_is_err_and c.from_residual.result c.from_residual.ensures.1 in
    let before = so_far (g.K.Sink.written c.args.sink.now) c.args.audience.now in
    rw (p.1, p.2) (λ recent may.
    let wave = c.in_err-answer_wave.ensures.puts recent may in
    wave-stops-change _ _ _ _ _ _ _ _ before _ wave.0 wave.1)

pub returns-in_err-answerer-clause-stops : goal.returns-in_err-answerer-clause-stops
returns-in_err-answerer-clause-stops g c =
    let p = err_from_is_err_and c.from_residual-in_err-answerer.result c.from_residual-in_err-answerer.ensures.1 in
    let same = c.in_ok-answer_wave.ensures in
    let puts = rw same.same_columns at c.in_err-answerer.ensures.puts in
    let mid = so_far (g.K.Sink.written c.answer_wave.new.sink) c.answer_wave.new.audience in
    let after = so_far (g.K.Sink.written c.change_settings.new.sink) c.change_settings.new.audience in
    rw (p.1, p.2) (λ recent may left.
    let wave = same.puts recent may in
    change-stops _ _ _ recent _ _ _ _ _ _ _ wave.0 wave.1
    (line-as _ (g.A.Answerer.index c.args.waiting.answerer) _ _ (λ (line : Line). Stops mid after (line ∷ []) c.in_err-answerer.field-0.0) wave.0 _ wave.2.settings_are puts) left)

pub returns-clause-takes : goal.returns-clause-takes
returns-clause-takes g c =
    let same = c.in_ok-answer_wave.ensures in
    let puts = rw same.same_columns at c.in_ok-answerer.ensures.puts in
    let next = rw same.same_columns at c.in_ok-answerer.ensures.recent in
    let mid = so_far (g.K.Sink.written c.answer_wave.new.sink) c.answer_wave.new.audience in
    let after = so_far (g.K.Sink.written c.change_settings.new.sink) c.change_settings.new.audience in
    rw c.new.ensures (λ recent may.
    let wave = same.puts recent may in (
      _,
      change-taken _ _ _ recent _ _ _ _ _ _ wave.0 _ wave.1
          (line-as _ (g.A.Answerer.index c.args.waiting.answerer) _ _ (λ (line : Line). WroteLines mid after (line ∷ [])) wave.0 _ wave.2.settings_are puts) refl,
      next wave.0 wave.2,
    ))
