use Rattle.std.proofs.Common.{List, sym, ◌∙◌, ap, subst, length, map, take, get_or}
use Rattle.agg_evaluation.specs.Cost.{node_cost}
use Rattle.agg_evaluation.specs.Rows.{PlacedRow, row_of}
use Rattle.growing_page.specs.GrowingPages.{decoders, page_node}
use Rattle.growing_tree.specs.GatheredEach.{after_each, cost_after}
use Rattle.collect_tree.specs.Blocks.{AreChanges}
use Rattle.collect_tree.specs.Phases.{HasFewKeys, with_one}
use Rattle.collect_tree.specs.declared.phase.Phase.{Phase}
use Rattle.collect_tree.specs.declared.phase.Phase.TheVariants.{Global}
use Rattle.collect_tree.proofs.Blocks.{each-same}
use Rattle.collect_tree.proofs.Changes.{changes-none}
use Rattle.collect_tree.proofs.Composites.{page-global}
use Rattle.collect_tree.proofs.top_tree.collect_in_page.Goals as goal

pub gather_in_page-requires-clause-few : goal.gather_in_page-requires-clause-few
gather_in_page-requires-clause-few c = λ n below.
    subst (λ (p : Phase). HasFewKeys p c.args.shard.now.rows c.args.agg.now (row_of c.args.shard.now.rows (get_or c.args.rows.now n 0))) c.in-Matched.is (c.requires.few n below)

pub returns-in_ok-gather_in_page-in-Matched-clause-node : goal.returns-in_ok-gather_in_page-in-Matched-clause-node
returns-in_ok-gather_in_page-in-Matched-clause-node c =
    let rows = c.args.shard.now.rows in
    let old = page_node (decoders c.args.shard.now c.args.children.now) c.args.page.now in
    c.in_ok-gather_in_page-in-Matched.ensures.node ∙ ap (λ (p : Phase). after_each (with_one p rows c.args.agg.now) (map (row_of rows) c.args.rows.now) old) (sym c.in-Matched.is)

pub returns-in_ok-gather_in_page-in-Matched-clause-changes : goal.returns-in_ok-gather_in_page-in-Matched-clause-changes
returns-in_ok-gather_in_page-in-Matched-clause-changes c =
    let rows = c.args.shard.now.rows in
    let old = page_node (decoders c.args.shard.now c.args.children.now) c.args.page.now in
    subst (λ (p : Phase). AreChanges (cost_after (with_one p rows c.args.agg.now) (map (row_of rows) c.args.rows.now) old) (length c.args.rows.now) c.args.added.now.items c.args.removed.now.items c.gather_in_page.new.added.items c.gather_in_page.new.removed.items)
    (sym c.in-Matched.is) c.in_ok-gather_in_page-in-Matched.ensures.changes

pub returns-in-Global : goal.returns-in-Global
returns-in-Global c =
    let rows = c.args.shard.now.rows in
    let a = c.args.agg.now in
    let roots = map (row_of rows) c.args.rows.now in
    let old = page_node (decoders c.args.shard.now c.args.children.now) c.args.page.now in
    let still = λ (rs : List PlacedRow). ap (λ (p : Phase). after_each (with_one p rows a) rs old) c.in-Global.is ∙ each-same (with_one Global rows a) (page-global rows a c.requires.page.composite) rs old in
    record {
      page = c.requires.page;
      node = sym (still roots);
      changes = changes-none (cost_after (with_one c.args.phase rows a) roots old) (node_cost old) (length c.args.rows.now) c.args.added.now.items c.args.removed.now.items (λ n few. ap node_cost (still (take n roots)));
    }
