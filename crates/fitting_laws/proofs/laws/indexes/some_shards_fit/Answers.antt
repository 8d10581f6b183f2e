use Rattle.fitting_laws.proofs.SomeShards.{finish-some, fit-some}
use Rattle.fitting_laws.proofs.laws.indexes.some_shards_fit.Goals as goal

-- src/laws.rt:14:1
pub returns-clause-fit : goal.returns-clause-fit
returns-clause-fit c = λ index search shards made among. fit-some index search made shards among

-- src/laws.rt:14:1
pub returns-clause-finish : goal.returns-clause-finish
returns-clause-finish c = λ index search shards made among. finish-some index search made shards among
