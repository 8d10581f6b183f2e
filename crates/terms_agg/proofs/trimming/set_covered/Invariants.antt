use Rattle.std.proofs.Common.{◌≡◌, map, take, drop, ◌++◌}
use Rattle.agg_evaluation.specs.Shard.{with_covered}
use Rattle.terms_agg.proofs.trimming.set_covered.Given as goal

abbrev pub invariant-loop-bucket : goal.invariant-loop-bucket
invariant-loop-bucket l = l.bucket-items ≡ map (with_covered l.covered) (take l.bucket-index l.fn.buckets.items) ++ drop l.bucket-index l.fn.buckets.items
