use Rattle.std.proofs.Common.{arith}
use Rattle.std.proofs.lemmas.Result.{err_from_is_err_and}
use Rattle.script_answers.proofs.Putting.{answers-more, answers-stop}
use Rattle.script_answers.proofs.writing.write_answers.Goals as goal

pub returns-in_err-write_answer-clause-puts : goal.returns-in_err-write_answer-clause-puts
returns-in_err-write_answer-clause-puts g c =
    let p = err_from_is_err_and c.from_residual.result c.from_residual.ensures.1 in
    rw (p.1, p.2)
    (answers-stop _ _ _ c.args.answers.now c.as_slice-answered-items.result.now c.loop-answered.answered-index c.answered-item.result c.in_err-write_answer.field-0.0 c.as_slice-answered-items.ensures
    c.loop-answered-test.true c.answered-item.is c.loop-answered.invariant.wrote c.in_err-write_answer.ensures.puts)

pub loop-answered-preserved : goal.loop-answered-preserved
loop-answered-preserved g c = record {
  wrote = answers-more _ _ _ _ _ _ c.loop-answered-test.true c.answered-item.is c.loop-answered.invariant.wrote c.in_ok-write_answer.ensures.puts;
  never_falls = omega (arith, c.loop-answered.invariant.never_falls, c.write_answer.ensures.never_falls);
}
