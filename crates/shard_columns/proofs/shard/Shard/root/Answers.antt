use Rattle.std.proofs.Common.{arith}
use Rattle.shard_columns.proofs.Reading.{numbers-are, root-in, root-number, root-row}
use Rattle.shard_columns.proofs.shard.Shard.root.Goals as goal

pub bounds-numbers_of-place : goal.bounds-numbers_of-place
bounds-numbers_of-place c = omega (arith, root-in c.self.inside c.args.self.now c.self.view_is c.self.invariant c.numbers_of.result.now (numbers-are c.self.inside c.args.self.now c.self.view_is c.self.invariant 0 c.as_slice.result.now c.numbers_of.result.now c.as_slice.ensures.value c.numbers_of.ensures) c.args.place c.requires)

pub returns-clause-number : goal.returns-clause-number
returns-clause-number c = root-number c.self.inside c.args.self.now c.self.view_is c.self.invariant c.numbers_of.result.now (numbers-are c.self.inside c.args.self.now c.self.view_is c.self.invariant 0 c.as_slice.result.now c.numbers_of.result.now c.as_slice.ensures.value c.numbers_of.ensures) c.args.place c.requires

pub returns-clause-row : goal.returns-clause-row
returns-clause-row c = root-row c.self.inside c.args.self.now c.self.view_is c.self.invariant c.numbers_of.result.now (numbers-are c.self.inside c.args.self.now c.self.view_is c.self.invariant 0 c.as_slice.result.now c.numbers_of.result.now c.as_slice.ensures.value c.numbers_of.ensures) c.args.place c.requires
