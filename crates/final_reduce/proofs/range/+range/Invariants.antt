use Rattle.std.proofs.Common.{◌≡◌, map, drop}
use Rattle.std.specs.List.{flat_map}
use Rattle.std.specs.Slice.Iter.{iter_rest}
use Rattle.agg_spec.specs.RangeCheck.{checker, check_each, check_bucket, first_path}
use Rattle.final_reduce.proofs.range.+range.Given as goal

-- nothing is out of range so far
abbrev pub invariant-check_buckets-loop-bucket : goal.invariant-check_buckets-loop-bucket
invariant-check_buckets-loop-bucket l = first_path (flat_map (check_bucket (map checker l.children)) (drop l.bucket-index l.bucket-items)) ≡ first_path (flat_map (check_bucket (map checker l.children)) l.buckets)

abbrev pub invariant-first_out_of_range-loop-agg : goal.invariant-first_out_of_range-loop-agg
invariant-first_out_of_range-loop-agg l = first_path (check_each (map checker (drop l.agg-index l.agg-items)) (iter_rest l.left)) ≡ first_path (check_each (map checker l.aggs) l.nodes)
