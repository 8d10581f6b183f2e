use Rattle.std.proofs.Common.{◌≡◌, ◌++◌, drop}
use Rattle.std.specs.Vec.Iter.{into_iter_items}
use Rattle.collect_tree.specs.Tops.{cut_tops}
use Rattle.collect_tree.proofs.growth.finish_trees.Given as goal

-- the nodes so far, and then those of the trees that are left
abbrev pub invariant-loop-place : goal.invariant-loop-place
invariant-loop-place l = record {
  rest : l.nodes ++ cut_tops l.shard (drop l.place l.aggs) (into_iter_items l.left) ≡ cut_tops l.shard l.aggs l.fn.trees.items;
  left : into_iter_items l.left ≡ drop l.place l.fn.trees.items;
}
