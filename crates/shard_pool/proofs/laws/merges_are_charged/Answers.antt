use Rattle.shard_pool.proofs.WorkCharges.{charge-alone, charge-most}
use Rattle.shard_pool.proofs.laws.merges_are_charged.Goals as goal

pub returns-clause-least : goal.returns-clause-least
returns-clause-least c = λ p size plan ms big of closed q low cost. charge-most p size big plan of (λ w. w) ms closed q low cost

pub returns-clause-alone : goal.returns-clause-alone
returns-clause-alone c = λ p size plan ms big of closed q low cost. charge-alone p size big plan of (λ w. w) ms closed q low cost
