use Rattle.std.proofs.Common.{◌∙◌, ap}
use Rattle.agg_model.specs.declared.partial.Node.TheVariants.{Keyed as KeyedNode}
use Rattle.growing_tree.specs.Trees.{counter_buckets}
use Rattle.growing_tree.proofs.Counters.{none-counted}
use Rattle.growing_tree.proofs.beginning.begin_keyed.Goals as goal

pub returns-then-has_counters-clause-node : goal.returns-then-has_counters-clause-node
returns-then-has_counters-clause-node c = ap (λ ns. KeyedNode (counter_buckets 0 ns) 0 0 0) c.in_ok-counts.ensures ∙ ap (λ bs. KeyedNode bs 0 0 0) (none-counted 0 c.args.table.width)
