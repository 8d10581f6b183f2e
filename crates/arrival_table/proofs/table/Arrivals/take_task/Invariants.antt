use Rattle.arrival_table.proofs.table.Arrivals.take_task.Given as goal

abbrev pub ghosts-take_task_by : goal.ghosts-take_task_by
ghosts-take_task_by g a = record { plan = a.self.now.plan; task = a.task; search = 0; number = 0; claims = 0 }
