use Rattle.std.proofs.Common.{arith}
use Rattle.shard_columns.proofs.Reading.{numbers-are, roots-len, roots-few}
use Rattle.shard_columns.proofs.shard.Shard.roots.Goals as goal

pub overflow_cast-result : goal.overflow_cast-result
overflow_cast-result c =
    let are = numbers-are c.self.inside c.args.self.now c.self.view_is c.self.invariant 0 c.as_slice.result.now c.numbers_of.result.now c.as_slice.ensures.value c.numbers_of.ensures in
    omega (arith, roots-few c.self.inside c.args.self.now c.self.view_is c.self.invariant c.numbers_of.result.now are)

pub returns : goal.returns
returns c =
    let are = numbers-are c.self.inside c.args.self.now c.self.view_is c.self.invariant 0 c.as_slice.result.now c.numbers_of.result.now c.as_slice.ensures.value c.numbers_of.ensures in
    omega (arith, roots-len c.self.inside c.args.self.now c.self.view_is c.self.invariant c.numbers_of.result.now are)
