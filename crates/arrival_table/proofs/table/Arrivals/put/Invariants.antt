use Rattle.arrival_table.proofs.table.Arrivals.put.Given as goal

abbrev pub ghosts-put_by : goal.ghosts-put_by
ghosts-put_by g a = record { plan = a.self.now.plan; task = 0; search = a.search; number = a.ticket; claims = 0 }
