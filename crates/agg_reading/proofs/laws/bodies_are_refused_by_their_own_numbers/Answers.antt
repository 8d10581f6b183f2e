use Rattle.agg_reading.proofs.BodyRefusals.{json_lacks, search_lacks, memory_stays, a_search_value}
use Rattle.agg_reading.proofs.laws.bodies_are_refused_by_their_own_numbers.Goals as goal

pub returns-clause-json : goal.returns-clause-json
returns-clause-json c = json_lacks

pub returns-clause-no_json : goal.returns-clause-no_json
returns-clause-no_json c = search_lacks

pub returns-clause-memory : goal.returns-clause-memory
returns-clause-memory c = memory_stays

pub returns-clause-numbers : goal.returns-clause-numbers
returns-clause-numbers c m bytes d = (a_search_value m bytes d).refusal
