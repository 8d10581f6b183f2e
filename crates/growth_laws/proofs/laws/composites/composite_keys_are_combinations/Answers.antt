use Rattle.list_laws.proofs.Booleans.{true_is}
use Rattle.growth_laws.proofs.Combinations.{composite-combinations, composite-count, composite-parts}
use Rattle.growth_laws.proofs.laws.composites.composite_keys_are_combinations.Goals as goal

pub returns-clause-keys : goal.returns-clause-keys
returns-clause-keys c = λ all sources size after row. composite-combinations sources row

pub returns-clause-count : goal.returns-clause-count
returns-clause-count c = λ all sources size after row. composite-count sources row

pub returns-clause-parts : goal.returns-clause-parts
returns-clause-parts c = λ all sources size after row. true_is _ (composite-parts sources row)
