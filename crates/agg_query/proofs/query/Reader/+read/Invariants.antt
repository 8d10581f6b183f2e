use Rattle.std.proofs.Common.{◌≡◌, ◌+◌, ◌*◌, ◌≤◌, drop}
use Rattle.serde_json.specs.View.{items_view}
use Rattle.json_walk.specs.Places.{pointer}
use Rattle.agg_reading.specs.Query.{queries_from, query_at}
use Rattle.agg_query.proofs.query.Reader.+read.Given as goal

abbrev pub decreases-query : goal.decreases-query
decreases-query l = 8 * l.left

abbrev pub decreases-queries : goal.decreases-queries
decreases-queries l = 8 * l.left + 1

abbrev pub decreases-clause : goal.decreases-clause
decreases-clause l = 8 * l.left + 2

abbrev pub decreases-all : goal.decreases-all
decreases-all l = 8 * l.left + 3

abbrev pub decreases-clauses : goal.decreases-clauses
decreases-clauses l = 8 * l.left + 4

abbrev pub decreases-bool_query : goal.decreases-bool_query
decreases-bool_query l = 8 * l.left + 5

abbrev pub decreases-within : goal.decreases-within
decreases-within l = 8 * l.left + 4

abbrev pub decreases-named : goal.decreases-named
decreases-named l = 8 * l.left + 7

abbrev pub invariant-queries-loop-place : goal.invariant-queries-loop-place
invariant-queries-loop-place l = record {
  few : l.count ≤ 1024;
  rest : queries_from (query_at l.left l.self.mapping.now l.context) (pointer l.at) l.place l.done l.count (items_view (drop l.place l.items.items)) ≡ queries_from (query_at l.left l.self.mapping.now l.context) (pointer l.at) 0 l.initial.done l.before (items_view l.items.items);
}
