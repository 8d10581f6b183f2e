use Rattle.std.proofs.Common.{take}
use Rattle.column_query.specs.Prepared.{AreReady}
use Rattle.filters_agg.proofs.prepared_filters.prepare_all.Given as goal

abbrev pub invariant-loop-query : goal.invariant-loop-query
invariant-loop-query l = AreReady l.shard (take l.query-index l.query-items) l.prepared
