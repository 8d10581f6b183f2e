use Rattle.growing_tree.proofs.Levels.{level-ready}
use Rattle.growing_tree.proofs.at_codes.put_alone.Goals as goal

pub lone_code-requires-clause-ready : goal.lone_code-requires-clause-ready
lone_code-requires-clause-ready g c = (level-ready c.args.shard.now c.args.agg.now c.args.ready.now c.requires.ready).kind

pub row_codes-requires-clause-ready : goal.row_codes-requires-clause-ready
row_codes-requires-clause-ready g c = (level-ready c.args.shard.now c.args.agg.now c.args.ready.now c.requires.ready).kind
