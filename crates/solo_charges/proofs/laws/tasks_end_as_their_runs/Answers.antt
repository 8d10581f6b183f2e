use Rattle.solo_charges.proofs.Tasks.{done-stands, refused-ends, refused-stands}
use Rattle.solo_charges.proofs.laws.tasks_end_as_their_runs.Goals as goal

pub returns-clause-done : goal.returns-clause-done
returns-clause-done c l before v u r search rows stands done = done-stands l before v r stands search rows u done

pub returns-clause-refused : goal.returns-clause-refused
returns-clause-refused c l before v u r search rows t stands whole ended = refused-ends l before v r stands search rows u t whole ended

pub returns-clause-left_out : goal.returns-clause-left_out
returns-clause-left_out c l before v u r search rows t stands whole ended = refused-stands l before v r stands search rows u t whole ended
