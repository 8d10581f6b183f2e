use Rattle.std.proofs.Common.{◌≡◌, ◌++◌, map, drop, true}
use Rattle.std.specs.Vec.Iter.{into_iter_items}
use Rattle.agg_evaluation.specs.Trees.{have_children, pass_each}
use Rattle.agg_evaluation.specs.Finishable.{is_finishable}
use Rattle.final_reduce.specs.Standing.{cut_bucket, cut_nodes, cutter}
use Rattle.final_reduce.proofs.cut.+cut.Given as goal

-- what stands so far, and then what is left
abbrev pub invariant-cut_each-loop-agg : goal.invariant-cut_each-loop-agg
invariant-cut_each-loop-agg l = record {
  left_pass : pass_each (map is_finishable (drop l.agg-index l.agg-items)) (into_iter_items l.left) ≡ true;
  rest : l.standing.items ++ cut_nodes (map cutter (drop l.agg-index l.agg-items)) (into_iter_items l.left) ≡ cut_nodes (map cutter l.agg-items) l.fn.nodes;
}

abbrev pub invariant-cut_below-loop-bucket : goal.invariant-cut_below-loop-bucket
invariant-cut_below-loop-bucket l = record {
  next : (goal.iterator-cut_below-loop-bucket).can_next l.bucket-iterator;
  finite : (goal.iterator-cut_below-loop-bucket).is_finite l.bucket-iterator;
  left : have_children (map is_finishable l.children) (into_iter_items l.bucket-iterator) ≡ true;
  rest : l.standing.items ++ map (cut_bucket (map cutter l.children)) (into_iter_items l.bucket-iterator) ≡ map (cut_bucket (map cutter l.children)) l.fn.buckets;
}
