use Rattle.std.proofs.Common.{take}
use Rattle.column_query.specs.Prepared.{BoundAsAll}
use Rattle.column_query.proofs.preparing.bounds_of.Given as goal

abbrev pub invariant-loop-test : goal.invariant-loop-test
invariant-loop-test l = BoundAsAll l.shard.rows l.field (take l.test-index l.tests) l.bounds.items
