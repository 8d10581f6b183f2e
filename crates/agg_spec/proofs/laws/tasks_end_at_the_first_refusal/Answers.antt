use Rattle.agg_spec.proofs.SoloLaws.{tasks-run}
use Rattle.agg_spec.proofs.laws.tasks_end_at_the_first_refusal.Goals as goal

pub returns : goal.returns
returns c limits search tasks going e = tasks-run limits search e tasks going
