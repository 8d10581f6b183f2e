use Rattle.std.proofs.Common.{sym, ◌∙◌}
use Rattle.shard_columns.proofs.Reading.{in-range, id-is}
use Rattle.shard_columns.proofs.shard.Shard.id.Goals as goal

pub at-requires : goal.at-requires
at-requires c = in-range c.self.inside c.args.self.now c.self.view_is c.self.invariant c.args.row c.requires

pub returns : goal.returns
returns c = c.bytes_at.ensures ∙ sym (id-is c.self.inside c.args.self.now c.self.view_is c.self.invariant c.args.row c.at.result c.requires c.at.ensures)
