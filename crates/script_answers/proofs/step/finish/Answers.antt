use Rattle.std.proofs.lemmas.Result.{err_from_is_err_and}
use Rattle.script_answers.specs.Outputs.{so_far}
use Rattle.script_answers.proofs.Ending.{wave-stops-end, end-finishes, end-stops}
use Rattle.script_answers.proofs.Widths.{on-each, err-each}
use Rattle.script_answers.proofs.step.finish.Goals as goal

pub returns-in_err-answer_wave-clause-stops : goal.returns-in_err-answer_wave-clause-stops
returns-in_err-answer_wave-clause-stops g c =
    let p = err_from_is_err_and c.from_residual.result c.from_residual.ensures.1 in
    let before = so_far (g.K.Sink.written c.args.sink.now) c.args.audience.now in
    rw (p.1, p.2) (λ recent may.
    let wave = c.in_err-answer_wave.ensures.puts recent may in
    wave-stops-end _ _ _ _ _ _ _ before _ wave.0 wave.1)

pub returns-clause-finishes : goal.returns-clause-finishes
returns-clause-finishes g c =
    let same = c.in_ok-answer_wave.ensures in
    let close = rw (same.same_index, same.same_columns) at c.close.ensures.puts in
    on-each c.close.result _ _ (λ recent may.
    let wave = same.puts recent may in
    end-finishes _ _ _ recent _ _ _ _ _ wave.0 _ wave.1 (close wave.0 wave.2))

pub returns-clause-stops : goal.returns-clause-stops
returns-clause-stops g c =
    let same = c.in_ok-answer_wave.ensures in
    let close = rw (same.same_index, same.same_columns) at c.close.ensures.puts in
    err-each c.close.result _ _ (λ recent may.
    let wave = same.puts recent may in
    end-stops _ _ _ recent _ _ _ _ _ wave.0 _ wave.1 (close wave.0 wave.2))
