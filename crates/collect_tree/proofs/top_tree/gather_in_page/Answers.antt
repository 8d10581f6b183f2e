use Rattle.std.proofs.Common.{◌≡◌, refl, ◌+◌, ◌<◌, ℕ, sym, ◌∙◌, ap, arith, length, map, get_or}
use Rattle.std.proofs.lemmas.List.{get_or_read}
use Rattle.agg_evaluation.specs.Cost.{node_cost}
use Rattle.agg_evaluation.specs.Rows.{row_of}
use Rattle.agg_model.specs.declared.aggregation.Agg.{out-Agg}
use Rattle.growing_page.proofs.Finals.{composite-is}
use Rattle.growing_page.specs.GrowingPages.{decoders, page_node}
use Rattle.growing_tree.proofs.Each.{after-all, after-next}
use Rattle.growing_tree.specs.GatheredEach.{cost_after}
use Rattle.collect_tree.specs.Phases.{with_one}
use Rattle.collect_tree.specs.declared.phase.Phase.TheVariants.{Matched}
use Rattle.collect_tree.proofs.Changes.{all-changed, changing-more, changing-none}
use Rattle.collect_tree.proofs.Composites.{page-matched}
use Rattle.collect_tree.proofs.top_tree.gather_in_page.Goals as goal

pub gather_root-requires-clause-few : goal.gather_root-requires-clause-few
gather_root-requires-clause-few c =
    c.requires.few c.loop-place.place (omega (arith, c.loop-place-test.true)) (composite-is (out-Agg c.args.agg.now).kind c.requires.page.composite)

pub loop-place-init : goal.loop-place-init
loop-place-init c = record {
  page = c.requires.page;
  node = refl;
  changing = changing-none (cost_after (with_one Matched c.args.shard.now.rows c.args.agg.now) (map (row_of c.args.shard.now.rows) c.args.rows.now) (page_node (decoders c.args.shard.now c.args.children.now) c.args.page.now)) c.args.added.now.items c.args.removed.now.items;
}

pub loop-place-preserved : goal.loop-place-preserved
loop-place-preserved c =
    let shard = c.args.shard.now in
    let a = c.args.agg.now in
    let step = with_one Matched shard.rows a in
    let row_at = row_of shard.rows in
    let rows = c.args.rows.now in
    let i = c.loop-place.place in
    let ds = decoders shard c.args.children.now in
    let old = page_node ds c.args.page.now in
    let change = c.in_ok-change.change in
    let changing = c.loop-place.invariant.changing in
    let below : i < length rows = omega (arith, c.loop-place-test.true) in
    let many_added = changing.changes.many_added in
    let many_removed = changing.changes.many_removed in
    let in_added : i < length c.loop-place.added.items = omega (arith, many_added, c.requires.many_added, below) in
    let in_removed : i < length c.loop-place.removed.items = omega (arith, many_removed, c.requires.many_removed, below) in
    let before = c.loop-place.invariant.node in
    let after = c.in_ok-change.ensures.node ∙ sym (page-matched shard.rows a (composite-is (out-Agg a).kind c.requires.page.composite) (row_at (get_or rows i 0)) (page_node ds c.loop-place.page))
    ∙ ap (step (row_at (get_or rows i 0))) before ∙ sym (after-next step row_at rows i old below) in
    let here = ap node_cost before in
    let next = ap node_cost after in
    let moved = c.in_ok-change.ensures.cost in
    let up : cost_after step (map row_at rows) old (i + 1) + change.removed ≡ cost_after step (map row_at rows) old i + change.added = omega (arith, here, next, moved) in
    record {
      page = record { ready = c.loop-place.invariant.page.ready; composite = c.loop-place.invariant.page.composite; filled = c.in_ok-change.ensures.page };
      node = after;
      changing = changing-more (cost_after step (map row_at rows) old) i change.added change.removed c.in_ok-more_added.more_added c.in_ok-more_removed.more_removed c.args.added.now.items c.args.removed.now.items c.loop-place.added.items c.loop-place.removed.items changing
          in_added in_removed up (c.in_ok-more_added.ensures ∙ ap (λ (k : ℕ). k + change.added) (get_or_read c.loop-place.added.items i c.index.result.now in_added c.index.ensures 0))
          (c.in_ok-more_removed.ensures ∙ ap (λ (k : ℕ). k + change.removed) (get_or_read c.loop-place.removed.items i c.index-in-loop-place.result.now in_removed c.index-in-loop-place.ensures 0));
    }

pub returns-clause-node : goal.returns-clause-node
returns-clause-node c =
    let shard = c.args.shard.now in
    c.loop-place.invariant.node ∙ after-all (with_one Matched shard.rows c.args.agg.now) (row_of shard.rows) c.args.rows.now c.loop-place.place (page_node (decoders shard c.args.children.now) c.args.page.now) (omega (arith, c.loop-place-test.false))

pub returns-clause-changes : goal.returns-clause-changes
returns-clause-changes c =
    let shard = c.args.shard.now in
    all-changed (cost_after (with_one Matched shard.rows c.args.agg.now) (map (row_of shard.rows) c.args.rows.now) (page_node (decoders shard c.args.children.now) c.args.page.now)) c.loop-place.place (length c.args.rows.now)
    c.args.added.now.items c.args.removed.now.items c.loop-place.added.items c.loop-place.removed.items c.loop-place.invariant.changing (omega (arith, c.loop-place-test.false))
