use Rattle.arrival_table.proofs.table.Arrivals.stop.Given as goal

abbrev pub ghosts-stop_by : goal.ghosts-stop_by
ghosts-stop_by g a = record { plan = a.self.now.plan; task = a.task; search = 0; number = 0; claims = 0 }
