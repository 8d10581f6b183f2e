use Rattle.date_agg.proofs.Made.{ready-dates}
use Rattle.date_agg.proofs.row_keys.key_count.Goals as goal

pub count-requires-clause-dates : goal.count-requires-clause-dates
count-requires-clause-dates c = ready-dates c.args.shard.now c.args.kind.now c.prepare.result c.prepare.ensures c.requires.dates
