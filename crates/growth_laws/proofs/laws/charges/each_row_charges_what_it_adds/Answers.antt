use Rattle.growth_laws.proofs.Sums.{amount-first, amount-last, amount-row}
use Rattle.growth_laws.proofs.laws.charges.each_row_charges_what_it_adds.Goals as goal

pub returns-clause-first : goal.returns-clause-first
returns-clause-first c = amount-first

pub returns-clause-row : goal.returns-clause-row
returns-clause-row c = amount-row

pub returns-clause-last : goal.returns-clause-last
returns-clause-last c = amount-last
