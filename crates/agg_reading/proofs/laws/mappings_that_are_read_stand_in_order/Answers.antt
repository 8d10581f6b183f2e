use Rattle.agg_reading.proofs.MappingLaws.{mapping_at-ordered}
use Rattle.agg_reading.proofs.IndexLineLaws.{index_line_at-ordered}
use Rattle.agg_reading.proofs.laws.mappings_that_are_read_stand_in_order.Goals as goal

pub returns-clause-mapping : goal.returns-clause-mapping
returns-clause-mapping c = mapping_at-ordered

pub returns-clause-line : goal.returns-clause-line
returns-clause-line c = index_line_at-ordered
