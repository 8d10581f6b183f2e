use Rattle.arrival_table.proofs.table.Arrivals.claim.Given as goal

abbrev pub ghosts-claim_by : goal.ghosts-claim_by
ghosts-claim_by g a = record { plan = a.self.now.plan; task = 0; search = 0; number = 0; claims = 0 }
