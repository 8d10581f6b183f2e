use Rattle.std.proofs.Common.{◌≡◌, take}
use Rattle.agg_model.specs.declared.aggregation.Agg.{out-Agg}
use Rattle.growing_tree.specs.Gathered.{gatherers, rows_at, shown_level}
use Rattle.growing_tree.specs.GatheredEach.{after_each, bytes_after, put_at_keys}
use Rattle.growing_tree.specs.Shown.{IsAlike}
use Rattle.growing_tree.specs.Trees.{IsAligned}
use Rattle.growing_tree.proofs.Rises.{IsRising}
use Rattle.growing_tree.proofs.in_turn.put_each.Given as goal

abbrev pub invariant-loop-place : goal.invariant-loop-place
invariant-loop-place l = record {
  buckets : shown_level l.shard l.ready l.level
      ≡ after_each (put_at_keys l.shard.rows (gatherers l.shard (out-Agg l.agg).children) (out-Agg l.agg).kind) (take l.place (rows_at l.shard l.rows)) (shown_level l.shard l.ready l.fn.level);
  rising : IsRising (bytes_after (put_at_keys l.shard.rows (gatherers l.shard (out-Agg l.agg).children) (out-Agg l.agg).kind) (rows_at l.shard l.rows) (shown_level l.shard l.ready l.fn.level))
      l.place l.fn.added.items l.added.items;
  form : IsAlike l.fn.level l.level;
  aligned : IsAligned l.fn.level → IsAligned l.level;
}
