use Rattle.arrival_table.proofs.table.Arrivals.take_result.Given as goal

abbrev pub ghosts-take_result_by : goal.ghosts-take_result_by
ghosts-take_result_by g a = record { plan = a.self.now.plan; task = 0; search = a.search; number = a.ticket; claims = 0 }
