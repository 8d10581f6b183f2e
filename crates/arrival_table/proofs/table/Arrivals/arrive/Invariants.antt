use Rattle.arrival_table.proofs.table.Arrivals.arrive.Given as goal

abbrev pub ghosts-arrive_by : goal.ghosts-arrive_by
ghosts-arrive_by g a = record { plan = a.self.now.plan; task = a.task; search = 0; number = 0; claims = 0 }
