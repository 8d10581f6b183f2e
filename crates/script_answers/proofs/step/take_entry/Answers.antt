use Rattle.script_answers.proofs.step.take_entry.Goals as goal

pub returns-in-Body-clause-stops : goal.returns-in-Body-clause-stops
returns-in-Body-clause-stops g c = rw c.in-Body.is c.take_body.ensures.stops

pub returns-in-Settings-clause-stops : goal.returns-in-Settings-clause-stops
returns-in-Settings-clause-stops g c = rw c.in-Settings.is c.take_settings.ensures.stops
