use Rattle.agg_program.proofs.running.run.Goals as goal

pub run-requires-clause-takes : goal.run-requires-clause-takes
run-requires-clause-takes g c κs within = λ settings is. tt
