use Rattle.column_query.proofs.Making.{looks-made, shard-made}
use Rattle.column_query.proofs.preparing.prepare.Goals as goal

pub prepare_query-requires : goal.prepare_query-requires
prepare_query-requires c = record { built = shard-made c.args.shard.now c.args.query.now c.requires; looks = looks-made c.args.shard.now c.args.query.now c.requires }
