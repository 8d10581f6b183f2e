use Rattle.column_query.proofs.Making.{looks-for, shard-for}
use Rattle.column_query.proofs.matched_rows.matched.Goals as goal

pub matched_roots-requires : goal.matched_roots-requires
matched_roots-requires c = record { built = shard-for c.args.shard.now c.args.query.now 0 c.requires; looks = looks-for c.args.shard.now c.args.query.now 0 c.requires }
