use Rattle.std.proofs.Common.{◌+◌}
use Rattle.agg_evaluation.specs.Rows.{row_of}
use Rattle.shard_columns.proofs.Reading.{child-row}
use Rattle.shard_columns.proofs.shard.Shard.child.Goals as goal

pub bounds-children-place : goal.bounds-children-place
bounds-children-place c = (child-row c.args.self.now.rows (c.args.path + 1) (row_of c.args.self.now.rows c.args.row) c.args.place c.children.result.now c.children.ensures.rows c.requires.there).0

pub returns-clause-number : goal.returns-clause-number
returns-clause-number c = c.children.ensures.numbers c.args.place (child-row c.args.self.now.rows (c.args.path + 1) (row_of c.args.self.now.rows c.args.row) c.args.place c.children.result.now c.children.ensures.rows c.requires.there).0

pub returns-clause-row : goal.returns-clause-row
returns-clause-row c = (child-row c.args.self.now.rows (c.args.path + 1) (row_of c.args.self.now.rows c.args.row) c.args.place c.children.result.now c.children.ensures.rows c.requires.there).1
