use Rattle.shard_tests.proofs.carried_passes.carry.Given as goal

abbrev pub ghosts-carry_by : goal.ghosts-carry_by
ghosts-carry_by a = record { pass = a.pass }
