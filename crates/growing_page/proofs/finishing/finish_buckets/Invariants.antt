use Rattle.std.proofs.Common.{◌≡◌, map}
use Rattle.agg_evaluation.specs.Folds.{fold_agg}
use Rattle.growth_laws.specs.Cutting.{cut_bucket, cutter_at}
use Rattle.growing_tree.specs.Gathered.{decoders}
use Rattle.growing_page.specs.GrowingPages.{shown_all}
use Rattle.growing_page.proofs.finishing.finish_buckets.Given as goal

abbrev pub invariant-loop-bucket : goal.invariant-loop-bucket
invariant-loop-bucket l = l.finished.items ≡ map (cut_bucket (map (fold_agg cutter_at) l.aggs)) (shown_all (decoders l.shard l.ready) l.yielded)
