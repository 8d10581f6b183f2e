use Rattle.std.proofs.Common.{sym}
use Rattle.std.proofs.lemmas.Option.{get_or_from_slice_get, slice_get-get_or}
use Rattle.agg_model.specs.declared.aggregation.Agg.{out-Agg}
use Rattle.filters_agg.proofs.MadeAggs.{child-made}
use Rattle.growing_page.proofs.Cursors.{agg-cursor}
use Rattle.growing_page.specs.GrowingPages.{decoders}
use Rattle.collect_tree.proofs.Composites.{composite-made}
use Rattle.collect_tree.proofs.top_tree.begin_page.Goals as goal

pub prepare_all-requires-clause-made : goal.prepare_all-requires-clause-made
prepare_all-requires-clause-made c =
    let children = (out-Agg c.args.agg.now).children in
    λ k d below. child-made c.args.shard.now c.args.agg.now k _ c.requires.made below (sym (get_or_from_slice_get children k _ _ (slice_get-get_or children k d below)))

pub begin-requires-clause-cursor : goal.begin-requires-clause-cursor
begin-requires-clause-cursor c = agg-cursor c.args.shard.now c.args.agg.now c.requires.made

pub returns-clause-ready : goal.returns-clause-ready
returns-clause-ready c = record {
  ready = c.in_ok-children.ensures.ready;
  composite = composite-made c.args.shard.now c.args.agg.now c.requires.made c.requires.composite;
  filled = c.in_ok-page.ensures.page (decoders c.args.shard.now c.in_ok-children.children);
}
