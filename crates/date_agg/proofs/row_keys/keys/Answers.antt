use Rattle.date_agg.proofs.Made.{ready-dates}
use Rattle.date_agg.proofs.row_keys.keys.Goals as goal

pub codes-requires-clause-dates : goal.codes-requires-clause-dates
codes-requires-clause-dates c = ready-dates c.args.shard.now c.args.kind.now c.prepare-prepared.result c.prepare-prepared.ensures c.requires.dates
