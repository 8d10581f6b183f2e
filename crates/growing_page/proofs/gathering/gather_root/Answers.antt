use Rattle.std.proofs.Common.{◌∙◌, sym, ap, subst, [], ◌∷◌, List}
use Rattle.std.specs.Prelude.{T}
use Rattle.std.specs.List.{list_all}
use Rattle.agg_model.specs.declared.aggregation.Agg.{out-Agg}
use Rattle.agg_model.specs.declared.partial.Bucket.{Bucket}
use Rattle.agg_model.specs.declared.partial.Node.TheVariants.{Keyed}
use Rattle.agg_evaluation.specs.Keys.{keys}
use Rattle.agg_evaluation.specs.Rows.{row_of}
use Rattle.agg_evaluation.specs.Shard.{sorted_by_key}
use Rattle.composite_agg.specs.FirstPages.{empty_page}
use Rattle.composite_agg.specs.Runs.{Run, in_runs}
use Rattle.growing_tree.specs.Gathered.{decoders, gatherers}
use Rattle.growing_page.specs.GrowingPages.{buckets_of, is_refused, shown_all}
use Rattle.growing_page.specs.declared.page.Held.{Held}
use Rattle.growing_page.proofs.Finals.{composite-is, counted-row, row-parts}
use Rattle.growing_page.proofs.Refusals.{groups-refused}
use Rattle.growing_page.proofs.gathering.gather_root.Goals as goal

pub returns-then-are_all_refused-clause-node : goal.returns-then-are_all_refused-clause-node
returns-then-are_all_refused-clause-node c =
    let shard = c.args.shard.now in
    let a = c.args.agg.now in
    let k = (out-Agg a).kind in
    let is = composite-is k c.requires.composite in
    let ds = decoders shard c.args.ready.now in
    let gs = gatherers shard (out-Agg a).children in
    let r = row_of shard.rows c.args.row in
    let hs = buckets_of c.args.page.now in
    let refused = subst (λ (rs : List (Run Held)). T (list_all (is_refused (empty_page k) (in_runs rs)) (keys shard.rows k r))) c.as_slice.ensures.value (c.are_all_refused.ensures c.if-are_all_refused.true) in
    let none = groups-refused k is ds gs (r ∷ []) hs c.requires.page.kept (keys shard.rows k r) (row-parts shard.rows k is r) refused in
    sym (ap (λ (bs : List Bucket). Keyed bs 0 0 0) none) ∙ counted-row shard.rows a r (sorted_by_key (shown_all ds hs))
