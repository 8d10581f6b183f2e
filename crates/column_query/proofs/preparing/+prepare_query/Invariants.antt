use Rattle.std.proofs.Common.{◌+◌, ◌*◌, take}
use denote.Param.Weighed.{most}
use Rattle.agg_model.specs.declared.query.Query.{size-Query}
use Rattle.column_query.specs.Prepared.{AreReady}
use Rattle.column_query.proofs.preparing.+prepare_query.Given as goal

-- the depth of a query, twice; a list's is that of its deepest query, and one more
abbrev pub decreases-prepare_query : goal.decreases-prepare_query
decreases-prepare_query l = 2 * size-Query l.query.now

abbrev pub decreases-prepare_all : goal.decreases-prepare_all
decreases-prepare_all l = 2 * most size-Query l.queries.now + 1

abbrev pub invariant-prepare_all-loop-query : goal.invariant-prepare_all-loop-query
invariant-prepare_all-loop-query l = AreReady l.shard (take l.query-index l.query-items) l.prepared
