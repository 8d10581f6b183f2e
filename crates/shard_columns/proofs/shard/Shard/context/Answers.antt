use Rattle.std.proofs.Common.{sym, ◌∙◌, arith}
use Rattle.shard_columns.proofs.Reading.{in-range, context-is, context-small}
use Rattle.shard_columns.proofs.shard.Shard.context.Goals as goal

pub at-requires : goal.at-requires
at-requires c = in-range c.self.inside c.args.self.now c.self.view_is c.self.invariant c.args.row c.requires

pub overflow_cast-result : goal.overflow_cast-result
overflow_cast-result c =
    omega (arith, context-is c.self.inside c.args.self.now c.self.view_is c.self.invariant c.args.row c.at.result c.requires c.at.ensures, c.context.ensures, context-small c.self.inside c.args.self.now c.self.view_is c.self.invariant c.args.row)

pub returns : goal.returns
returns c = c.context.ensures ∙ sym (context-is c.self.inside c.args.self.now c.self.view_is c.self.invariant c.args.row c.at.result c.requires c.at.ensures)
