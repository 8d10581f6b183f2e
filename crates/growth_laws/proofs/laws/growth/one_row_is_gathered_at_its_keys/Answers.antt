use Rattle.growth_laws.proofs.Gathering.{group-one, keys-one}
use Rattle.growth_laws.proofs.laws.growth.one_row_is_gathered_at_its_keys.Goals as goal

pub returns-clause-keys : goal.returns-clause-keys
returns-clause-keys c = keys-one

pub returns-clause-rows : goal.returns-clause-rows
returns-clause-rows c = group-one
