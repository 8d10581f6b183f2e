use Rattle.arrival_table.proofs.table.Arrivals.split.Given as goal

abbrev pub ghosts-split_by : goal.ghosts-split_by
ghosts-split_by g a = record { plan = a.self.now.plan; task = 0; search = 0; number = 0; claims = a.left }
