use Rattle.collect_tree.proofs.Made.{query-made}
use Rattle.collect_tree.proofs.running.prepare.Goals as goal

pub matched-requires : goal.matched-requires
matched-requires c = query-made c.args.shard.now c.args.search.now c.requires.made
