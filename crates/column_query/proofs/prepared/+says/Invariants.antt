use Rattle.std.proofs.Common.{◌≡◌, ◌+◌, ◌*◌, true, false, length, filter, take}
use Rattle.std.specs.List.{list_any, list_all}
use Rattle.agg_evaluation.specs.Rows.{row_of}
use Rattle.column_query.specs.Prepared.{says}
use denote.Param.Weighed.{most}
use Rattle.column_query.specs.declared.prepared.Prepared.{size-Prepared}
use Rattle.column_query.proofs.prepared.+says.Given as goal

abbrev pub invariant-count_matching-loop-query : goal.invariant-count_matching-loop-query
invariant-count_matching-loop-query l = l.count ≡ length (filter (λ query. says l.shard.rows query (row_of l.shard.rows l.row)) (take l.query-index l.query-items))

abbrev pub invariant-is_match-loop-child : goal.invariant-is_match-loop-child
invariant-is_match-loop-child l = list_any (λ n. says l.shard.rows l.query (row_of l.shard.rows n)) (take l.child-index l.child-items) ≡ false

abbrev pub invariant-all_match-loop-query : goal.invariant-all_match-loop-query
invariant-all_match-loop-query l = list_all (λ query. says l.shard.rows query (row_of l.shard.rows l.row)) (take l.query-index l.query-items) ≡ true

abbrev pub invariant-any_matches-loop-query : goal.invariant-any_matches-loop-query
invariant-any_matches-loop-query l = list_any (λ query. says l.shard.rows query (row_of l.shard.rows l.row)) (take l.query-index l.query-items) ≡ false

-- the depth of a query, twice; a list's is that of its deepest query, and one more
abbrev pub decreases-is_match : goal.decreases-is_match
decreases-is_match l = 2 * size-Prepared l.query.now

abbrev pub decreases-all_match : goal.decreases-all_match
decreases-all_match l = 2 * most size-Prepared l.queries.now + 1

abbrev pub decreases-any_matches : goal.decreases-any_matches
decreases-any_matches l = 2 * most size-Prepared l.queries.now + 1

abbrev pub decreases-count_matching : goal.decreases-count_matching
decreases-count_matching l = 2 * most size-Prepared l.queries.now + 1
