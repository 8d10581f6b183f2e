use Rattle.std.proofs.Common.{refl}
use Rattle.list_laws.proofs.Booleans.{holds}
use Rattle.growth_laws.proofs.RootSteps.{global-step, matched-step}
use Rattle.growth_laws.proofs.laws.growth.trees_grow_root_by_root.Goals as goal

pub returns-clause-trees : goal.returns-clause-trees
returns-clause-trees c = λ search all n. refl

pub returns-clause-matched : goal.returns-clause-matched
returns-clause-matched c = λ search documents a n root placed e. matched-step search documents a (holds _ placed) n root e

pub returns-clause-global : goal.returns-clause-global
returns-clause-global c = λ search documents a n root placed e. global-step search documents a (holds _ placed) n root e
