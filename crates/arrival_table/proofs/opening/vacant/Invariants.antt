use Rattle.std.proofs.Common.{◌≡◌, replicate}
use Rattle.arrival_table.specs.declared.cell.Cell.TheVariants.{Vacant}
use Rattle.arrival_table.proofs.opening.vacant.Given as goal

abbrev pub invariant-loop : goal.invariant-loop
invariant-loop g l = l.slots.items ≡ replicate l.counter Vacant
