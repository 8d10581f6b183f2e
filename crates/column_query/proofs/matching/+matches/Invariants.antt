use Rattle.std.proofs.Common.{◌≡◌, ◌+◌, true, false, length, filter, take}
use Rattle.std.specs.List.{list_any, list_all}
use Rattle.agg_evaluation.specs.Rows.{beneath, row_of}
use Rattle.agg_evaluation.specs.Matching.{matches}
use Rattle.column_query.proofs.matching.+matches.Given as goal

abbrev pub invariant-count_matching-loop-query : goal.invariant-count_matching-loop-query
invariant-count_matching-loop-query l = l.count ≡ length (filter (λ query. matches l.shard.rows query (row_of l.shard.rows l.row)) (take l.query-index l.query-items))

abbrev pub invariant-matches-loop-place : goal.invariant-matches-loop-place
invariant-matches-loop-place l = list_any (matches l.shard.rows l.query) (take l.place (beneath l.shard.rows (l.path + 1) (row_of l.shard.rows l.row))) ≡ false

abbrev pub invariant-matches_all-loop-query : goal.invariant-matches_all-loop-query
invariant-matches_all-loop-query l = list_all (λ query. matches l.shard.rows query (row_of l.shard.rows l.row)) (take l.query-index l.query-items) ≡ true

abbrev pub invariant-matches_any-loop-query : goal.invariant-matches_any-loop-query
invariant-matches_any-loop-query l = list_any (λ query. matches l.shard.rows query (row_of l.shard.rows l.row)) (take l.query-index l.query-items) ≡ false
