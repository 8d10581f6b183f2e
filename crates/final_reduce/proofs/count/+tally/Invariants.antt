use Rattle.std.proofs.Common.{◌≡◌, map, drop, true}
use Rattle.std.specs.List.{list_all}
use Rattle.std.specs.Slice.Iter.{iter_rest}
use Rattle.agg_evaluation.specs.Trees.{have_children, pass_each}
use Rattle.agg_evaluation.specs.Conditions.{has_intervals}
use Rattle.final_reduce.specs.Standing.{is_standing}
use Rattle.final_reduce.specs.Counts.{tally, tally_from, below_from}
use Rattle.final_reduce.proofs.count.+tally.Given as goal

-- the count so far, and then what is left
abbrev pub invariant-count_each-loop-agg : goal.invariant-count_each-loop-agg
invariant-count_each-loop-agg l = record {
  left_have : list_all has_intervals (drop l.agg-index l.agg-items) ≡ true;
  left_pass : pass_each (map is_standing (drop l.agg-index l.agg-items)) (iter_rest l.left) ≡ true;
  rest : tally_from l.count (map tally (drop l.agg-index l.agg-items)) (iter_rest l.left) ≡ tally_from 0 (map tally l.aggs) l.nodes;
}

abbrev pub invariant-count_below-loop-bucket : goal.invariant-count_below-loop-bucket
invariant-count_below-loop-bucket l = record {
  left_pass : have_children (map is_standing l.children) (drop l.bucket-index l.buckets) ≡ true;
  rest : below_from (map tally l.children) l.count (drop l.bucket-index l.buckets) ≡ below_from (map tally l.children) 0 l.buckets;
}
