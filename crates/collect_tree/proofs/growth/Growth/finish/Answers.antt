use Rattle.std.proofs.Common.{◌≡◌, List, subst, IfOk}
use Rattle.agg_model.specs.declared.partial.Node.{Node}
use Rattle.agg_evaluation.specs.Shard.{shard_node}
use Rattle.agg_evaluation.specs.Trace.{matched}
use Rattle.growth_laws.specs.Amounts.{row_count}
use Rattle.growth_laws.specs.Steps.{tree_after}
use Rattle.collect_tree.proofs.Made.{is-shard}
use Rattle.collect_tree.proofs.Tops.{cut-all}
use Rattle.collect_tree.proofs.Trees.{last-tree}
use Rattle.collect_tree.proofs.growth.Growth.finish.Goals as goal

pub finish_trees-requires-clause-built : goal.finish_trees-requires-clause-built
finish_trees-requires-clause-built c = is-shard c.args.shard.now c.args.search.now c.requires.made

pub returns : goal.returns
returns c =
    let shard = c.args.shard.now in
    let search = c.args.search.now in
    let grown = c.requires.grown in
    let is = cut-all shard (λ a. tree_after search shard.rows a (row_count search shard.rows)) (λ a. shard_node shard.rows a (matched search shard.rows)) search.aggs c.args.self.trees.items
    grown.ready.count grown.nodes (last-tree shard search c.requires.made) in
    subst (λ (ns : List Node). IfOk c.finish_trees.result (λ nodes. nodes ≡ ns)) is c.finish_trees.ensures
