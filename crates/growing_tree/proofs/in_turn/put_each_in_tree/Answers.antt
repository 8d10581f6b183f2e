use Rattle.std.proofs.Common.{◌∙◌, ap, subst, rules, length}
use Rattle.agg_model.specs.declared.aggregation.Agg.{out-Agg}
use Rattle.agg_model.specs.declared.partial.Node.{Node}
use Rattle.growth_laws.specs.Gathering.{gathered}
use Rattle.growing_tree.specs.Decoded.{decoded}
use Rattle.growing_tree.specs.Gathered.{gatherers, rows_at, shown_level}
use Rattle.growing_tree.specs.GatheredEach.{AreRises, after_each, bytes_after, cost_after, gathered_one, put_at_keys}
use Rattle.growing_tree.specs.Steady.{IsSteady}
use Rattle.growing_tree.specs.Trees.{IsAligned, level_node}
use Rattle.growing_tree.proofs.Each.{cost-each, each-gathered}
use Rattle.growing_tree.proofs.InSteps.{keyed-steady}
use Rattle.growing_tree.proofs.Levels.{level-ready}
use Rattle.growing_tree.proofs.Rises.{rises-above}
use Rattle.growing_tree.proofs.in_turn.put_each_in_tree.Goals as goal

pub returns-clause-tree : goal.returns-clause-tree
returns-clause-tree c =
    let shard = c.args.shard.now in
    let a = c.args.agg.now in
    let r = c.args.ready.now in
    let rows = rows_at shard c.args.rows.now in
    each-gathered shard a r (level-ready shard a r c.requires.ready).kind c.requires.keyed c.tree.inside.level (c.has_buckets.ensures (search rules)) rows c.put_each.new.level c.in_ok-put_each.ensures.buckets c.in_ok-put_each.ensures.form
    ∙ ap (λ n. after_each (gathered_one shard.rows a) rows (decoded shard r n)) c.tree.view_is

pub returns-clause-rises : goal.returns-clause-rises
returns-clause-rises c =
    let shard = c.args.shard.now in
    let a = c.args.agg.now in
    let r = c.args.ready.now in
    let rows = rows_at shard c.args.rows.now in
    let level = c.tree.inside.level in
    subst (λ (n : Node). AreRises (cost_after (gathered_one shard.rows a) rows (decoded shard r n)) (length c.args.rows.now) c.args.added.now.items c.put_each.new.added.items) c.tree.view_is
    (rises-above (bytes_after (put_at_keys shard.rows (gatherers shard (out-Agg a).children) (out-Agg a).kind) rows (shown_level shard r level)) (cost_after (gathered_one shard.rows a) rows (decoded shard r (level_node level))) 512 (length c.args.rows.now)
    c.args.added.now.items c.put_each.new.added.items (cost-each shard a r (level-ready shard a r c.requires.ready).kind c.requires.keyed level (c.has_buckets.ensures (search rules)) rows) c.in_ok-put_each.ensures.rises)

pub returns-clause-steady : goal.returns-clause-steady
returns-clause-steady c = λ metrics.
    let shard = c.args.shard.now in
    let a = c.args.agg.now in
    let r = c.args.ready.now in
    let aligned : IsAligned c.tree.inside.level = search rules in
    subst (λ (n : Node). IsSteady (gathered shard.rows a) (decoded shard r n)) c.tree.view_is
    (keyed-steady shard a r (level-ready shard a r c.requires.ready).kind c.requires.keyed (c.requires.metrics metrics) c.tree.inside.level (c.has_buckets.ensures (search rules)) aligned)
