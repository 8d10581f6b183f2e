use Rattle.std.proofs.Common.{◌≡◌, ◌+◌, ◌∷◌, [], map, take, sum_by}
use Rattle.agg_model.specs.declared.aggregation.Agg.{out-Agg}
use Rattle.agg_evaluation.specs.Rows.{row_of}
use Rattle.evaluation_laws.proofs.CostLaws.{bytes}
use Rattle.growing_tree.specs.Gathered.{gatherers, key_at}
use Rattle.growing_tree.specs.Shown.{put_all}
use Rattle.growing_tree.proofs.at_codes.put_at.Given as goal

abbrev pub invariant-loop-place : goal.invariant-loop-place
invariant-loop-place g l = record {
  buckets : g.T.TakesRow.shown l.shard l.agg l.ready l.buckets l.waiting
      ≡ put_all (λ k. row_of l.shard.rows l.row ∷ []) (gatherers l.shard (out-Agg l.agg).children) (take l.place (map (key_at l.shard l.ready) l.codes)) (g.T.TakesRow.shown l.shard l.agg l.ready l.fn.buckets l.fn.waiting);
  cost : sum_by bytes (g.T.TakesRow.shown l.shard l.agg l.ready l.buckets l.waiting) ≡ sum_by bytes (g.T.TakesRow.shown l.shard l.agg l.ready l.fn.buckets l.fn.waiting) + l.added;
  fit : g.T.TakesRow.IsFit l.shard l.buckets l.waiting;
  stays : g.T.TakesRow.Stays l.fn.buckets l.buckets;
}
