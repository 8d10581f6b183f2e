use Rattle.agg_reading.proofs.ShardWeights.{shards_weigh}
use Rattle.fitting_laws.proofs.Weights as weights
use Rattle.fitting_laws.proofs.laws.documents.weights_agree.Goals as goal

pub returns-clause-rows : goal.returns-clause-rows
returns-clause-rows c = weights.weights_agree

pub returns-clause-shards : goal.returns-clause-shards
returns-clause-shards c = shards_weigh
