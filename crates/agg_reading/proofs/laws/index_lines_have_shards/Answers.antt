use Rattle.agg_reading.proofs.IndexLineLaws.{index_line_at-shards}
use Rattle.agg_reading.proofs.laws.index_lines_have_shards.Goals as goal

pub returns : goal.returns
returns c = index_line_at-shards
