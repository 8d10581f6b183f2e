use Rattle.std.proofs.Common.{◌≡◌, map, take}
use Rattle.agg_evaluation.specs.Rows.{row_of}
use Rattle.growing_page.specs.GrowingPages.{decoders, page_node}
use Rattle.growing_tree.specs.GatheredEach.{after_each, cost_after}
use Rattle.collect_tree.specs.Phases.{with_one}
use Rattle.collect_tree.specs.Tops.{IsPageFor}
use Rattle.collect_tree.specs.declared.phase.Phase.TheVariants.{Matched}
use Rattle.collect_tree.proofs.Changes.{IsChanging}
use Rattle.collect_tree.proofs.top_tree.gather_in_page.Given as goal

abbrev pub invariant-loop-place : goal.invariant-loop-place
invariant-loop-place l = record {
  page : IsPageFor l.shard l.agg l.children l.page;
  node : page_node (decoders l.shard l.children) l.page ≡ after_each (with_one Matched l.shard.rows l.agg) (take l.place (map (row_of l.shard.rows) l.rows)) (page_node (decoders l.shard l.children) l.fn.page);
  changing : IsChanging (cost_after (with_one Matched l.shard.rows l.agg) (map (row_of l.shard.rows) l.rows) (page_node (decoders l.shard l.children) l.fn.page)) l.place l.fn.added.items l.fn.removed.items l.added.items l.removed.items;
}
