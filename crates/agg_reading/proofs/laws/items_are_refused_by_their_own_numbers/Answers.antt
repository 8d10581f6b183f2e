use Rattle.agg_reading.proofs.DocumentRefusals.{a_document, an_action}
use Rattle.agg_reading.proofs.laws.items_are_refused_by_their_own_numbers.Goals as goal

pub returns-clause-document : goal.returns-clause-document
returns-clause-document c m source = (a_document m source).refusal

pub returns-clause-action : goal.returns-clause-action
returns-clause-action c m action store = (an_action m action store).refusal
