use Rattle.std.proofs.Common.{◌≡◌, ◌+◌, ◌*◌, ◌≤◌, length}
use Rattle.serde_json.specs.View.{members_view}
use Rattle.json_walk.specs.Places.{pointer}
use Rattle.agg_reading.specs.Request.{aggregations_from, aggregation_at, no_siblings}
use Rattle.request_pipes.specs.Children.{HaveFewChildren}
use Rattle.agg_request.proofs.tree.Reader.+tree.Given as goal

abbrev pub decreases-aggregation : goal.decreases-aggregation
decreases-aggregation l = 6 * l.left

abbrev pub decreases-all : goal.decreases-all
decreases-all l = 6 * l.left + 1

abbrev pub decreases-aggregations : goal.decreases-aggregations
decreases-aggregations l = 6 * l.left + 2

abbrev pub decreases-children_in : goal.decreases-children_in
decreases-children_in l = 6 * l.left + 3

abbrev pub decreases-aggregation_of : goal.decreases-aggregation_of
decreases-aggregation_of l = 6 * l.left + 5

abbrev pub decreases-kind_of : goal.decreases-kind_of
decreases-kind_of l = 6 * l.left + 4

abbrev pub decreases-pipe_of : goal.decreases-pipe_of
decreases-pipe_of l = 6 * l.left + 4

abbrev pub invariant-all-loop-name : goal.invariant-all-loop-name
invariant-all-loop-name l = record {
  queries : l.counts.queries ≤ 1024;
  aggregations : l.counts.aggregations ≤ 256;
  added : l.fn.before.aggregations + length l.done.aggs ≤ l.counts.aggregations;
  below : HaveFewChildren l.done.aggs;
  rest : aggregations_from (aggregation_at l.left l.self.mapping.now l.top) l.context (pointer l.at) l.done l.counts (members_view l.name-iterator) ≡ aggregations_from (aggregation_at l.left l.self.mapping.now l.top) l.context (pointer l.at) no_siblings l.fn.before (members_view l.members.entries);
}
