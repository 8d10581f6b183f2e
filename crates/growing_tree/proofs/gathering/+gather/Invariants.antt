use Rattle.std.proofs.Common.{◌≡◌, ◌+◌, ◌*◌, List, map, take, sum_by}
use denote.Param.Weighed.{most}
use Rattle.agg_model.specs.declared.aggregation.Agg.{out-Agg, size-Agg}
use Rattle.agg_model.specs.declared.key.Key.{Key}
use Rattle.agg_evaluation.specs.Cost.{node_cost}
use Rattle.agg_evaluation.specs.Rows.{PlacedRow}
use Rattle.evaluation_laws.proofs.CostLaws.{bytes}
use Rattle.growth_laws.specs.Gathering.{gathered_children}
use Rattle.growing_tree.specs.Gathered.{gatherers, key_at, rows_at, shown_children, shown_level}
use Rattle.growing_tree.specs.Shown.{IsAlike, put_all}
use Rattle.growing_tree.specs.Trees.{IsAligned}
use Rattle.growing_tree.proofs.gathering.+gather.Given as goal

abbrev pub invariant-gather_children-loop-place : goal.invariant-gather_children-loop-place
invariant-gather_children-loop-place l = record {
  trees : shown_children l.shard l.ready l.children.items ≡ gathered_children (take l.place (gatherers l.shard l.aggs)) (rows_at l.shard l.rows) (shown_children l.shard l.ready l.fn.children.items);
  cost : sum_by node_cost (shown_children l.shard l.ready l.children.items) ≡ sum_by node_cost (shown_children l.shard l.ready l.fn.children.items) + l.added;
}

abbrev pub invariant-put_codes-loop-place : goal.invariant-put_codes-loop-place
invariant-put_codes-loop-place l = record {
  buckets : shown_level l.shard l.ready l.level
      ≡ put_all (λ k. rows_at l.shard l.rows) (gatherers l.shard (out-Agg l.agg).children) (take l.place (map (key_at l.shard l.ready) l.codes)) (shown_level l.shard l.ready l.fn.level);
  cost : sum_by bytes (shown_level l.shard l.ready l.level) ≡ sum_by bytes (shown_level l.shard l.ready l.fn.level) + l.added;
  form : IsAlike l.fn.level l.level;
  aligned : IsAligned l.fn.level → IsAligned l.level;
}

abbrev pub invariant-put_groups-loop-place : goal.invariant-put_groups-loop-place
invariant-put_groups-loop-place l = record {
  buckets : (rows_of : Key → List PlacedRow) → map (rows_at l.shard) l.groups.rows.items ≡ map (λ c. rows_of (key_at l.shard l.ready c)) l.groups.places
      → shown_level l.shard l.ready l.level
      ≡ put_all rows_of (gatherers l.shard (out-Agg l.agg).children) (take l.place (map (key_at l.shard l.ready) l.groups.places)) (shown_level l.shard l.ready l.fn.level);
  cost : sum_by bytes (shown_level l.shard l.ready l.level) ≡ sum_by bytes (shown_level l.shard l.ready l.fn.level) + l.added;
  form : IsAlike l.fn.level l.level;
  aligned : IsAligned l.fn.level → IsAligned l.level;
}

-- the depth of the aggregation falls at its children; within one level a caller stands above what it calls
abbrev pub decreases-gather_children : goal.decreases-gather_children
decreases-gather_children l = 11 * most size-Agg l.aggs.now + 9

abbrev pub decreases-gather_child : goal.decreases-gather_child
decreases-gather_child l = 11 * size-Agg l.agg.now + 8

abbrev pub decreases-gather_bucket : goal.decreases-gather_bucket
decreases-gather_bucket l = 11 * most size-Agg l.aggs.now + 10

abbrev pub decreases-put_coded : goal.decreases-put_coded
decreases-put_coded l = 11 * size-Agg l.agg.now

abbrev pub decreases-put_fixed : goal.decreases-put_fixed
decreases-put_fixed l = 11 * size-Agg l.agg.now

abbrev pub decreases-put : goal.decreases-put
decreases-put l = 11 * size-Agg l.agg.now + 1

abbrev pub decreases-put_codes : goal.decreases-put_codes
decreases-put_codes l = 11 * size-Agg l.agg.now + 2

abbrev pub decreases-put_row : goal.decreases-put_row
decreases-put_row l = 11 * size-Agg l.agg.now + 3

abbrev pub decreases-put_groups : goal.decreases-put_groups
decreases-put_groups l = 11 * size-Agg l.agg.now + 2

abbrev pub decreases-count_keyed : goal.decreases-count_keyed
decreases-count_keyed l = 11 * size-Agg l.agg.now + 5

abbrev pub decreases-count : goal.decreases-count
decreases-count l = 11 * size-Agg l.agg.now + 6

abbrev pub decreases-gather : goal.decreases-gather
decreases-gather l = 11 * size-Agg l.agg.now + 7
