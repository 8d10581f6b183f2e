use Rattle.std.proofs.Common.{◌≤◌, map, take}
use Rattle.agg_spec.specs.Written.{answer}
use Rattle.script_answers.specs.Outputs.{so_far}
use Rattle.script_answers.specs.Steps.{WroteLines}
use Rattle.script_answers.proofs.writing.write_answers.Given as goal

-- the answers whose lines were written
pub record Writing (g : goal.Over) (l : goal.Live-loop-answered g) : Type 0 where
  pub wrote : WroteLines (so_far (g.K.Sink.written l.fn.sink) l.fn.audience) (so_far (g.K.Sink.written l.sink) l.audience) (map answer (take l.answered-index l.answered-items))
  pub never_falls : g.K.Sink.faults l.fn.sink ≤ g.K.Sink.faults l.sink

abbrev pub invariant-loop-answered : goal.invariant-loop-answered
invariant-loop-answered g l = Writing g l
