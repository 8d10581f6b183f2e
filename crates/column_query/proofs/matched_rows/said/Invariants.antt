use Rattle.std.proofs.Common.{◌≡◌, map, take}
use Rattle.column_query.specs.Prepared.{says}
use Rattle.agg_evaluation.specs.Rows.{roots}
use Rattle.column_query.proofs.matched_rows.said.Given as goal

abbrev pub invariant-loop-place : goal.invariant-loop-place
invariant-loop-place l = l.bits.items ≡ map (says l.shard.rows l.query) (take l.place (roots l.shard.rows))
