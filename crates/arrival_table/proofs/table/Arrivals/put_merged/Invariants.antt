use Rattle.arrival_table.proofs.table.Arrivals.put_merged.Given as goal

abbrev pub ghosts-put_merged_by : goal.ghosts-put_merged_by
ghosts-put_merged_by g a = record { plan = a.self.now.plan; task = 0; search = a.search; number = a.batch; claims = 0 }
