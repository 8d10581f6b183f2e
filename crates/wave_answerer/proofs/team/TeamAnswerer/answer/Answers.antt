use Rattle.wave_answerer.proofs.team.TeamAnswerer.answer.Goals as goal

pub returns-in-Many-clause-rounds : goal.returns-in-Many-clause-rounds
returns-in-Many-clause-rounds g c = rw c.in-Many.is c.answer-in-Many.ensures.rounds
