use Rattle.agg_response.proofs.BulkTokens.{one, next}
use Rattle.agg_response.proofs.bulk.write_text.Goals as goal

pub returns : goal.returns
returns c = next (one c.in_ok-key.ensures) (one c.in_ok-string.ensures)
