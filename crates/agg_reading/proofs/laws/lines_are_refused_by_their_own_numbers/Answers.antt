use Rattle.agg_reading.proofs.LineRefusals.{an_index_line, an_action}
use Rattle.agg_reading.proofs.ScriptRefusals.{a_header}
use Rattle.agg_reading.proofs.laws.lines_are_refused_by_their_own_numbers.Goals as goal

pub returns-clause-index_line : goal.returns-clause-index_line
returns-clause-index_line c bytes = (an_index_line bytes).refusal

pub returns-clause-action : goal.returns-clause-action
returns-clause-action c index before bytes = (an_action index before bytes).refusal

pub returns-clause-header : goal.returns-clause-header
returns-clause-header c = a_header
