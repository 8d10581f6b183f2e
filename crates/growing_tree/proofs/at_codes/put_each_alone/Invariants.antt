use Rattle.std.proofs.Common.{◌≡◌, take}
use Rattle.agg_model.specs.declared.aggregation.Agg.{out-Agg}
use Rattle.growing_tree.specs.Gathered.{gatherers, rows_at}
use Rattle.growing_tree.specs.GatheredEach.{after_each, bytes_after, put_at_keys}
use Rattle.growing_tree.proofs.Rises.{IsRising}
use Rattle.growing_tree.proofs.at_codes.put_each_alone.Given as goal

abbrev pub invariant-loop-place : goal.invariant-loop-place
invariant-loop-place g l = record {
  buckets : g.T.TakesRow.shown l.shard l.agg l.ready l.buckets l.waiting
      ≡ after_each (put_at_keys l.shard.rows (gatherers l.shard (out-Agg l.agg).children) (out-Agg l.agg).kind) (take l.place (rows_at l.shard l.rows)) (g.T.TakesRow.shown l.shard l.agg l.ready l.fn.buckets l.fn.waiting);
  rising : IsRising (bytes_after (put_at_keys l.shard.rows (gatherers l.shard (out-Agg l.agg).children) (out-Agg l.agg).kind) (rows_at l.shard l.rows) (g.T.TakesRow.shown l.shard l.agg l.ready l.fn.buckets l.fn.waiting))
      l.place l.fn.added.items l.added.items;
  fit : g.T.TakesRow.IsFit l.shard l.buckets l.waiting;
  stays : g.T.TakesRow.Stays l.fn.buckets l.buckets;
}
