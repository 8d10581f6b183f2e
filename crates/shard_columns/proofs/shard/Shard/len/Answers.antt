use Rattle.std.proofs.Common.{arith, subst}
use Rattle.shard_columns.specs.Built.{IsShard}
use Rattle.shard_columns.proofs.Reading.{len-is, rows-few}
use Rattle.shard_columns.proofs.shard.Shard.len.Goals as goal

pub overflow_cast-result : goal.overflow_cast-result
overflow_cast-result c = omega (arith, len-is c.self.inside c.args.self.now c.self.view_is c.self.invariant, rows-few c.self.inside c.args.self.now c.self.view_is c.self.invariant, c.len.ensures)

pub returns-clause-built : goal.returns-clause-built
returns-clause-built c = subst IsShard c.self.view_is c.self.invariant.built

pub returns-clause-rows : goal.returns-clause-rows
returns-clause-rows c = omega (arith, len-is c.self.inside c.args.self.now c.self.view_is c.self.invariant, c.len.ensures)
