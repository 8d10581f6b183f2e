use Rattle.std.proofs.Common.{◌∙◌, sym, ap, subst, arith, length, List}
use Rattle.std.specs.Prelude.{T}
use Rattle.std.specs.List.{list_all}
use Rattle.agg_model.specs.declared.aggregation.Agg.{out-Agg}
use Rattle.agg_model.specs.declared.key.Key.{Key}
use Rattle.agg_evaluation.specs.CompositeKeys.{is_composite_of}
use Rattle.agg_evaluation.specs.Shard.{sorted_by_key}
use Rattle.composite_agg.specs.Odometer.{keys_to_come}
use Rattle.growth_laws.specs.Gathering.{put_groups}
use Rattle.list_laws.proofs.Booleans.{and_left, and_right, true_is}
use Rattle.growing_tree.specs.Gathered.{decoders, gatherers, rows_at}
use Rattle.growing_page.specs.GrowingPages.{buckets_of, shown_all, sources_of}
use Rattle.growing_page.proofs.gathering.put_combinations.Goals as goal

-- the first key has a part for each source
pub put_chosen-requires-clause-parts : goal.put_chosen-requires-clause-parts
put_chosen-requires-clause-parts c = true_is _ (and_left _ _ c.requires.parts)

pub behind-init : goal.behind-init
behind-init c =
    let shard = c.args.shard.now in
    let k = (out-Agg c.args.agg.now).kind in
    let gs = gatherers shard (out-Agg c.args.agg.now).children in
    let rows = rows_at shard c.args.rows.now in
    let to_come = keys_to_come c.args.combinations in
    let first = c.in_ok-change.ensures in
    (record {
      buckets = ap (put_groups (λ j. rows) gs k to_come) first.buckets;
      parts = and_right _ _ c.requires.parts;
      page = first.page;
      cost = first.cost;
    })

-- each later one has too
pub put_chosen-requires-in-behind-clause-parts : goal.put_chosen-requires-in-behind-clause-parts
put_chosen-requires-in-behind-clause-parts c =
    let n = length (sources_of (out-Agg c.args.agg.now).kind) in
    let all = subst (λ (qs : List Key). T (list_all (is_composite_of n) qs)) (c.advance.ensures.next c.behind-test.true) c.behind.invariant.parts in
    true_is _ (and_left _ _ all)

pub behind-preserved : goal.behind-preserved
behind-preserved c =
    let shard = c.args.shard.now in
    let k = (out-Agg c.args.agg.now).kind in
    let gs = gatherers shard (out-Agg c.args.agg.now).children in
    let rows = rows_at shard c.args.rows.now in
    let n = length (sources_of k) in
    let before = c.behind.invariant in
    let more = c.in_ok-more.ensures in
    let now = sorted_by_key (shown_all (decoders shard c.args.ready.now) (buckets_of c.behind.page)) in
    let added = c.in_ok-sum_of.ensures in
    let removed = c.in_ok-sum_of-2.ensures in
    let to_come = keys_to_come c.advance.new.self in
    let next = c.advance.ensures.next c.behind-test.true in
    (record {
      buckets =
          ap (put_groups (λ j. rows) gs k to_come) more.buckets
          ∙ ap (λ (qs : List Key). put_groups (λ j. rows) gs k qs now) (sym next)
          ∙ before.buckets;
      parts = and_right _ _ (subst (λ (qs : List Key). T (list_all (is_composite_of n) qs)) next before.parts);
      page = more.page;
      cost = omega (arith, before.cost, more.cost, added, removed);
    })

pub behind-smaller : goal.behind-smaller
behind-smaller c =
    let fewer = ap length (c.advance.ensures.next c.behind-test.true) in
    omega (arith, fewer)

pub returns-clause-buckets : goal.returns-clause-buckets
returns-clause-buckets c =
    let shard = c.args.shard.now in
    let k = (out-Agg c.args.agg.now).kind in
    let gs = gatherers shard (out-Agg c.args.agg.now).children in
    let rows = rows_at shard c.args.rows.now in
    let now = sorted_by_key (shown_all (decoders shard c.args.ready.now) (buckets_of c.behind.page)) in
    ap (λ (qs : List Key). put_groups (λ j. rows) gs k qs now) (sym (c.advance.ensures.last c.behind-test.false)) ∙ c.behind.invariant.buckets
