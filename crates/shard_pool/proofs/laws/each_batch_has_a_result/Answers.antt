use Rattle.shard_pool.proofs.WorkBatches.{works-count, works-some}
use Rattle.shard_pool.proofs.laws.each_batch_has_a_result.Goals as goal

pub returns-clause-count : goal.returns-clause-count
returns-clause-count c = λ p size plan ms big of closed q low. works-count p size big plan of (λ w. w) ms closed q low

pub returns-clause-some : goal.returns-clause-some
returns-clause-some c = λ p size plan ms big of closed q. works-some p size big plan of (λ w. w) ms closed q
