use Rattle.growth_laws.proofs.Sums.{gross-charged, peak-reached, sum-peak}
use Rattle.growth_laws.proofs.Places.{tree-peak}
use Rattle.growth_laws.proofs.laws.charges.peak_is_the_greatest_sum.Goals as goal

pub returns-clause-bound : goal.returns-clause-bound
returns-clause-bound c = sum-peak

pub returns-clause-reached : goal.returns-clause-reached
returns-clause-reached c = peak-reached

pub returns-clause-trees : goal.returns-clause-trees
returns-clause-trees c = tree-peak

pub returns-clause-gross : goal.returns-clause-gross
returns-clause-gross c = gross-charged
