use Rattle.arrival_table.proofs.table.Arrivals.stopped.Given as goal

abbrev pub ghosts-stopped_by : goal.ghosts-stopped_by
ghosts-stopped_by g a = record { plan = a.self.now.plan; task = 0; search = a.search; number = 0; claims = 0 }
