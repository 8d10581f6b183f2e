use Rattle.std.proofs.Common.{◌+◌}
use Rattle.shard_columns.proofs.Reading.{rows-few, numbers-are, numbers-ascend, children-are, child-number}
use Rattle.shard_columns.proofs.shard.Shard.children.Goals as goal

pub numbers_between-requires-clause-ascend : goal.numbers_between-requires-clause-ascend
numbers_between-requires-clause-ascend c = numbers-ascend c.self.inside c.args.self.now c.self.view_is c.self.invariant (c.args.path + 1) c.numbers_of-numbers.result.now (numbers-are c.self.inside c.args.self.now c.self.view_is c.self.invariant (c.args.path + 1) c.as_slice.result.now c.numbers_of-numbers.result.now c.as_slice.ensures.value c.numbers_of-numbers.ensures)

pub returns-clause-rows : goal.returns-clause-rows
returns-clause-rows c = children-are c.self.inside c.args.self.now c.self.view_is c.self.invariant (c.args.path + 1) c.args.row c.numbers_of-numbers.result.now c.requires (numbers-are c.self.inside c.args.self.now c.self.view_is c.self.invariant (c.args.path + 1) c.as_slice.result.now c.numbers_of-numbers.result.now c.as_slice.ensures.value c.numbers_of-numbers.ensures) c.index-end.result.now c.index-end.ensures c.numbers_between.result.now c.numbers_between.ensures

pub returns-clause-numbers : goal.returns-clause-numbers
returns-clause-numbers c = child-number c.self.inside c.args.self.now c.self.view_is c.self.invariant (c.args.path + 1) c.args.row c.numbers_of-numbers.result.now c.requires (numbers-are c.self.inside c.args.self.now c.self.view_is c.self.invariant (c.args.path + 1) c.as_slice.result.now c.numbers_of-numbers.result.now c.as_slice.ensures.value c.numbers_of-numbers.ensures) c.index-end.result.now c.index-end.ensures c.numbers_between.result.now c.numbers_between.ensures

pub returns-clause-few : goal.returns-clause-few
returns-clause-few c = rows-few c.self.inside c.args.self.now c.self.view_is c.self.invariant
