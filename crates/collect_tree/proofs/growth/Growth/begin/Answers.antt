use Rattle.std.proofs.Common.{sym, ◌∙◌}
use Rattle.std.proofs.lemmas.Option.{slice_get-get_or}
use Rattle.growth_laws.specs.Steps.{tree_after}
use Rattle.collect_tree.specs.Tops.{AreNodes}
use Rattle.collect_tree.proofs.Made.{agg-made, is-shard}
use Rattle.collect_tree.proofs.Tops.{sum-tops}
use Rattle.collect_tree.proofs.Trees.{first-tree}
use Rattle.collect_tree.proofs.growth.Growth.begin.Goals as goal

pub begin_trees-requires-clause-built : goal.begin_trees-requires-clause-built
begin_trees-requires-clause-built c = is-shard c.args.shard.now c.args.search.now c.requires.made

pub begin_trees-requires-clause-made : goal.begin_trees-requires-clause-made
begin_trees-requires-clause-made c = λ k d below. agg-made c.args.shard.now c.args.search.now c.requires.made k _ (slice_get-get_or c.args.search.now.aggs k d below)

pub returns : goal.returns
returns c =
    let shard = c.args.shard.now in
    let search = c.args.search.now in
    let ready = c.in_ok-trees.ensures.ready in
    let nodes : AreNodes shard search.aggs (λ place a. tree_after search shard.rows a 0) c.in_ok-trees.trees.items =
    λ n a top at there. c.in_ok-trees.ensures.nodes n a top at there ∙ sym (first-tree shard search c.requires.made a) in
    record {
      ready = ready;
      nodes = nodes;
      bytes_are = c.requires.bytes ∙ sym (sum-tops shard (λ a. tree_after search shard.rows a 0) search.aggs c.in_ok-trees.trees.items ready.count nodes);
    }
