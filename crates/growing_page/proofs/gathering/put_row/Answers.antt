use Rattle.std.proofs.Common.{◌∙◌, sym, ap, subst, arith, List, [], ◌∷◌, length}
use Rattle.std.specs.Prelude.{T}
use Rattle.std.specs.List.{list_all}
use Rattle.agg_model.specs.declared.aggregation.Agg.{out-Agg}
use Rattle.agg_model.specs.declared.key.Key.{Key}
use Rattle.agg_model.specs.declared.partial.Node.TheVariants.{Keyed}
use Rattle.agg_model.specs.declared.partial.Bucket.{Bucket}
use Rattle.agg_evaluation.specs.CompositeKeys.{is_composite_of}
use Rattle.agg_evaluation.specs.Rows.{PlacedRow, row_of}
use Rattle.agg_evaluation.specs.Shard.{sorted_by_key}
use Rattle.composite_agg.specs.Odometer.{keys_left, keys_of_all}
use Rattle.growth_laws.specs.Gathering.{put_groups}
use Rattle.growing_tree.specs.Gathered.{decoders, gatherers, rows_at}
use Rattle.growing_page.specs.GrowingPages.{buckets_of, shown_all, sources_of}
use Rattle.growing_page.proofs.Finals.{counted-row, composite-is, page-cost, row-parts}
use Rattle.growing_page.proofs.gathering.put_row.Goals as goal

pub put_combinations-requires-clause-parts : goal.put_combinations-requires-clause-parts
put_combinations-requires-clause-parts c =
    let k = (out-Agg c.args.agg.now).kind in
    let all = c.args.shard.now.rows in
    let keys_are = c.in_ok-combinations.ensures ∙ ap keys_of_all c.in-Some.is in
    subst (λ (ks : List Key). T (list_all (is_composite_of (length (sources_of k))) ks)) keys_are (row-parts all k (composite-is k c.requires.composite) (row_of all c.args.row))

pub returns-in_ok-change-in-Some-clause-node : goal.returns-in_ok-change-in-Some-clause-node
returns-in_ok-change-in-Some-clause-node c =
    let shard = c.args.shard.now in
    let a = c.args.agg.now in
    let k = (out-Agg a).kind in
    let gs = gatherers shard (out-Agg a).children in
    let r = row_of shard.rows c.args.row in
    let bs = sorted_by_key (shown_all (decoders shard c.args.ready.now) (buckets_of c.args.page.now)) in
    let rows_are = ap (rows_at shard) c.as_slice.ensures in
    let keys_are = c.in_ok-combinations.ensures ∙ ap keys_of_all c.in-Some.is in
    ap (λ (xs : List Bucket). Keyed xs 0 0 0)
    (c.in_ok-change-in-Some.ensures.buckets ∙ ap (λ (rs : List PlacedRow). put_groups (λ q. rs) gs k (keys_left c.in-Some.combinations) bs) rows_are
    ∙ ap (λ (ks : List Key). put_groups (λ q. r ∷ []) gs k ks bs) (sym keys_are))
    ∙ counted-row shard.rows a r bs

pub returns-in-None-clause-node : goal.returns-in-None-clause-node
returns-in-None-clause-node c =
    let shard = c.args.shard.now in
    let a = c.args.agg.now in
    let k = (out-Agg a).kind in
    let gs = gatherers shard (out-Agg a).children in
    let r = row_of shard.rows c.args.row in
    let bs = sorted_by_key (shown_all (decoders shard c.args.ready.now) (buckets_of c.args.page.now)) in
    let none = c.in_ok-combinations.ensures ∙ ap keys_of_all c.in-None.is in
    sym (ap (λ (ks : List Key). Keyed (put_groups (λ q. r ∷ []) gs k ks bs) 0 0 0) none) ∙ counted-row shard.rows a r bs

pub returns-in_ok-change-in-Some-clause-cost : goal.returns-in_ok-change-in-Some-clause-cost
returns-in_ok-change-in-Some-clause-cost c =
    let ds = decoders c.args.shard.now c.args.ready.now in
    let before = page-cost (shown_all ds (buckets_of c.args.page.now)) in
    let after = page-cost (shown_all ds (buckets_of c.put_combinations.new.page)) in
    let all = c.in_ok-change-in-Some.ensures.cost in
    omega (arith, before, after, all)
