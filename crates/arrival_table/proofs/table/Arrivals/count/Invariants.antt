use Rattle.arrival_table.proofs.table.Arrivals.count.Given as goal

abbrev pub ghosts-count_by : goal.ghosts-count_by
ghosts-count_by g a = record { plan = a.self.now.plan; task = 0; search = a.search; number = a.ticket; claims = 0 }
