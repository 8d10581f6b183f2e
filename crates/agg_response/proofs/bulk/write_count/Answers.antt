use Rattle.agg_response.proofs.BulkTokens.{one, next}
use Rattle.agg_response.proofs.bulk.write_count.Goals as goal

pub returns : goal.returns
returns c = next (one c.in_ok-key.ensures) (one c.in_ok-u64.ensures)
