use Rattle.std.proofs.Common.{take}
use Rattle.column_query.specs.Prepared.{StandForAll}
use Rattle.column_query.proofs.preparing.numbers_of.Given as goal

abbrev pub invariant-loop-probe : goal.invariant-loop-probe
invariant-loop-probe l = StandForAll l.shard.rows l.field (take l.probe-index l.probes) l.numbers.items
