use Rattle.shard_columns.proofs.Finishing.{finished-by}
use Rattle.shard_columns.proofs.columns.finished.Goals as goal

pub returns : goal.returns
returns c = finished-by c.args.homes.now c.args.ranks.now c.args.draft c.rank_all.new.typed c.requires.shaped c.rank_all.ensures c.in_ok-spans.spans c.in_ok-spans.ensures.rises c.in_ok-spans.ensures.spans
