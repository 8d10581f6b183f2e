use Rattle.terms_agg.proofs.Made.{made-terms}
use Rattle.terms_agg.proofs.preparing.made_terms_can_be_prepared.Goals as goal

pub returns : goal.returns
returns c m shard children t of made = made-terms m children t made shard of
