use Rattle.std.proofs.Common.{sym, ◌∙◌, ap, subst, length, map, take}
use Rattle.agg_evaluation.specs.Cost.{node_cost}
use Rattle.agg_evaluation.specs.Rows.{PlacedRow, row_of}
use Rattle.agg_model.specs.declared.partial.Node.{Node}
use Rattle.growing_tree.specs.Decoded.{decoded}
use Rattle.growing_tree.specs.GatheredEach.{after_each, cost_after, counted_one, gathered_one}
use Rattle.collect_tree.specs.Blocks.{AreChanges}
use Rattle.collect_tree.specs.Phases.{with_one}
use Rattle.collect_tree.proofs.Blocks.{global-counts, global-skips, matched-gathers, matched-skips}
use Rattle.collect_tree.proofs.Changes.{changes-none, rises-changes}
use Rattle.collect_tree.proofs.top_tree.collect_in_tree.Goals as goal

pub returns-then-global : goal.returns-then-global
returns-then-global c =
    let rows = c.args.shard.now.rows in
    let a = c.args.agg.now in
    let old = decoded c.args.shard.now c.args.ready.now c.args.tree.now in
    let roots = map (row_of rows) c.args.rows.now in
    let skips = matched-skips rows a c.args.phase c.in-Matched.is (sym c.is_global-global.ensures ∙ c.if-global.true) in
    record {
      node = sym (skips roots old);
      changes = λ removed. changes-none (cost_after (with_one c.args.phase rows a) roots old) (node_cost old) (length c.args.rows.now) c.args.added.now.items removed (λ n few. ap node_cost (skips (take n roots) old));
    }

pub returns-in_ok-gather_each-in-Matched : goal.returns-in_ok-gather_each-in-Matched
returns-in_ok-gather_each-in-Matched c =
    let rows = c.args.shard.now.rows in
    let a = c.args.agg.now in
    let old = decoded c.args.shard.now c.args.ready.now c.args.tree.now in
    let roots = map (row_of rows) c.args.rows.now in
    let same = matched-gathers rows a c.args.phase c.in-Matched.is (sym c.is_global-global.ensures ∙ c.if-global.false) in
    record {
      node = c.in_ok-gather_each-in-Matched.ensures.tree ∙ ap (λ (s : PlacedRow → Node → Node). after_each s roots old) (sym same);
      changes = λ removed. subst (λ (s : PlacedRow → Node → Node). AreChanges (cost_after s roots old) (length c.args.rows.now) c.args.added.now.items removed c.gather_each.new.added.items removed) (sym same)
          (rises-changes (cost_after (gathered_one rows a) roots old) (length c.args.rows.now) c.args.added.now.items c.gather_each.new.added.items removed c.in_ok-gather_each-in-Matched.ensures.rises);
    }

pub returns-then-not-global : goal.returns-then-not-global
returns-then-not-global c =
    let rows = c.args.shard.now.rows in
    let a = c.args.agg.now in
    let old = decoded c.args.shard.now c.args.ready.now c.args.tree.now in
    let roots = map (row_of rows) c.args.rows.now in
    let skips = global-skips rows a c.args.phase c.in-Global.is (sym c.is_global-global.ensures ∙ c.if-not-global.true) in
    record {
      node = sym (skips roots old);
      changes = λ removed. changes-none (cost_after (with_one c.args.phase rows a) roots old) (node_cost old) (length c.args.rows.now) c.args.added.now.items removed (λ n few. ap node_cost (skips (take n roots) old));
    }

pub returns-in_ok-count_each-in-Global : goal.returns-in_ok-count_each-in-Global
returns-in_ok-count_each-in-Global c =
    let rows = c.args.shard.now.rows in
    let a = c.args.agg.now in
    let old = decoded c.args.shard.now c.args.ready.now c.args.tree.now in
    let roots = map (row_of rows) c.args.rows.now in
    let same = global-counts rows a c.args.phase c.in-Global.is (sym c.is_global-global.ensures ∙ c.if-not-global.false) in
    record {
      node = c.in_ok-count_each-in-Global.ensures.tree ∙ ap (λ (s : PlacedRow → Node → Node). after_each s roots old) (sym same);
      changes = λ removed. subst (λ (s : PlacedRow → Node → Node). AreChanges (cost_after s roots old) (length c.args.rows.now) c.args.added.now.items removed c.count_each.new.added.items removed) (sym same)
          (rises-changes (cost_after (counted_one rows a) roots old) (length c.args.rows.now) c.args.added.now.items c.count_each.new.added.items removed c.in_ok-count_each-in-Global.ensures.rises);
    }
