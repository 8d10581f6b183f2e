use Rattle.shard_pool.proofs.Skipped.{none-skipped}
use Rattle.shard_pool.proofs.laws.none_is_skipped_but_beside_a_failure.Goals as goal

pub returns : goal.returns
returns c = λ p size plan ms big of closed q. none-skipped p size big plan of (λ w. w) ms closed q
