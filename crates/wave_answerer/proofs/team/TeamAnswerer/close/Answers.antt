use Rattle.wave_answerer.proofs.team.TeamAnswerer.close.Goals as goal

pub returns-in-Many : goal.returns-in-Many
returns-in-Many c = rw c.in-Many.is c.close-in-Many.ensures
