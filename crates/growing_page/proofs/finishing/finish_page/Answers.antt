use Rattle.std.proofs.Common.{◌∙◌, sym, ap, List, map}
use Rattle.agg_model.specs.declared.aggregation.Agg.{out-Agg}
use Rattle.agg_model.specs.declared.partial.Bucket.{Bucket}
use Rattle.agg_model.specs.declared.partial.Node.TheVariants.{Keyed}
use Rattle.agg_evaluation.specs.Folds.{fold_agg}
use Rattle.agg_evaluation.specs.Shard.{sorted_by_key}
use Rattle.growth_laws.specs.Cutting.{cut_bucket, cutter_at}
use Rattle.growing_tree.specs.Gathered.{decoders}
use Rattle.growing_page.specs.GrowingPages.{buckets_of, shown_all}
use Rattle.growing_page.specs.declared.page.Held.{Held}
use Rattle.growing_page.proofs.Finals.{cut-page, cut-sorted}
use Rattle.growing_page.proofs.finishing.finish_page.Goals as goal

pub returns : goal.returns
returns c =
    let bs = shown_all (decoders c.args.shard.now c.args.ready.now) (buckets_of c.args.page) in
    let cs = map (fold_agg cutter_at) (out-Agg c.args.agg.now).children in
    ap (λ (xs : List Bucket). Keyed xs 0 0 0) (c.from_vec.ensures ∙ c.in_ok-sort_by_key.ensures.sorted ∙ ap sorted_by_key (c.in_ok-finished.ensures ∙ ap (λ (hs : List Held). map (cut_bucket cs) (shown_all (decoders c.args.shard.now c.args.ready.now) hs)) c.in_ok-buckets.ensures) ∙ sym (cut-sorted cs bs))
    ∙ sym (cut-page c.args.agg.now c.requires.composite (sorted_by_key bs))
