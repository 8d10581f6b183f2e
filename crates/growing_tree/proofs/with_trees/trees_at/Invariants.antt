use Rattle.std.proofs.Common.{◌≡◌, map, take}
use Rattle.agg_model.specs.declared.partial.Node.TheVariants.{Number}
use Rattle.growing_tree.specs.Measures.{metrics_at}
use Rattle.growing_tree.proofs.with_trees.trees_at.Given as goal

abbrev pub invariant-loop-column : goal.invariant-loop-column
invariant-loop-column l = l.trees.items ≡ map Number (metrics_at (take l.column-index l.columns) l.place)
