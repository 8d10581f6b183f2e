use Rattle.std.proofs.Common.{◌≡◌, ◌+◌, take, sum_by}
use Rattle.agg_model.specs.declared.aggregation.Agg.{out-Agg}
use Rattle.evaluation_laws.proofs.CostLaws.{bytes}
use Rattle.growth_laws.specs.Gathering.{gathered_buckets}
use Rattle.growing_tree.specs.Gathered.{gatherers, rows_at, shown_level}
use Rattle.growing_tree.specs.Shown.{IsAlike}
use Rattle.growing_tree.specs.Trees.{IsAligned}
use Rattle.growing_tree.proofs.lone_rows.put_in_turn.Given as goal

abbrev pub invariant-loop-row : goal.invariant-loop-row
invariant-loop-row l = record {
  buckets : shown_level l.shard l.ready l.level
      ≡ gathered_buckets l.shard.rows (gatherers l.shard (out-Agg l.agg).children) (out-Agg l.agg).kind (rows_at l.shard (take l.row-index l.rows)) (shown_level l.shard l.ready l.fn.level);
  cost : sum_by bytes (shown_level l.shard l.ready l.level) ≡ sum_by bytes (shown_level l.shard l.ready l.fn.level) + l.added;
  form : IsAlike l.fn.level l.level;
  aligned : IsAligned l.fn.level → IsAligned l.level;
}
