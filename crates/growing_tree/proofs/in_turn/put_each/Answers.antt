use Rattle.std.proofs.Common.{◌∙◌, ap, arith, ◌<◌, ◌+◌, length, get_or, map, sum_by, refl, ℕ}
use Rattle.std.proofs.lemmas.List.{get_or_read}
use Rattle.agg_model.specs.declared.aggregation.Agg.{out-Agg}
use Rattle.agg_evaluation.specs.Rows.{row_of}
use Rattle.evaluation_laws.proofs.CostLaws.{bytes}
use Rattle.growing_tree.specs.Gathered.{gatherers, rows_at, shown_level}
use Rattle.growing_tree.specs.GatheredEach.{bytes_after, put_at_keys}
use Rattle.growing_tree.proofs.Each.{after-all, one-in-turn}
use Rattle.growing_tree.proofs.Rises.{all-rose, rising-more, rising-none}
use Rattle.growing_tree.proofs.in_turn.put_each.Goals as goal

pub loop-place-preserved : goal.loop-place-preserved
loop-place-preserved c =
    let shard = c.args.shard.now in
    let a = c.args.agg.now in
    let r = c.args.ready.now in
    let step = put_at_keys shard.rows (gatherers shard (out-Agg a).children) (out-Agg a).kind in
    let row_at = row_of shard.rows in
    let rows = c.args.rows.now in
    let i = c.loop-place.place in
    let old = shown_level shard r c.args.level.now in
    let now = c.loop-place.added.items in
    let more = c.in_ok-more.more in
    let rising = c.loop-place.invariant.rising in
    let below : i < length rows = omega (arith, c.loop-place-test.true) in
    let within : i < length now = (let many = rising.rises.many in omega (arith, many, c.requires.many, below)) in
    let turn = one-in-turn step (sum_by bytes) row_at rows i more old (shown_level shard r c.loop-place.level) (shown_level shard r c.put_row.new.level) below c.loop-place.invariant.buckets (c.in_ok-more.ensures.buckets (row_at (get_or rows i 0)) (ap (map row_at) c.as_slice.ensures)) c.in_ok-more.ensures.cost in
    record {
      buckets = turn.0;
      rising = rising-more (bytes_after step (rows_at shard rows) old) i more c.in_ok-next.next c.args.added.now.items now rising within turn.1 (c.in_ok-next.ensures ∙ ap (λ (k : ℕ). k + more) (get_or_read now i c.index.result.now within c.index.ensures 0));
      form = λ bs. c.in_ok-more.ensures.form bs ∙ c.loop-place.invariant.form bs;
      aligned = λ h. c.in_ok-more.ensures.aligned (c.loop-place.invariant.aligned h);
    }

pub loop-place-init : goal.loop-place-init
loop-place-init c =
    let shard = c.args.shard.now in
    let a = c.args.agg.now in
    record {
      buckets = refl;
      rising = rising-none (bytes_after (put_at_keys shard.rows (gatherers shard (out-Agg a).children) (out-Agg a).kind) (rows_at shard c.args.rows.now) (shown_level shard c.args.ready.now c.args.level.now)) c.args.added.now.items;
      form = λ bs. refl;
      aligned = λ h. h;
    }

pub returns-clause-buckets : goal.returns-clause-buckets
returns-clause-buckets c =
    let shard = c.args.shard.now in
    let a = c.args.agg.now in
    let step = put_at_keys shard.rows (gatherers shard (out-Agg a).children) (out-Agg a).kind in
    c.loop-place.invariant.buckets ∙ after-all step (row_of shard.rows) c.args.rows.now c.loop-place.place (shown_level shard c.args.ready.now c.args.level.now) (omega (arith, c.loop-place-test.false))

pub returns-clause-rises : goal.returns-clause-rises
returns-clause-rises c =
    let shard = c.args.shard.now in
    let a = c.args.agg.now in
    let step = put_at_keys shard.rows (gatherers shard (out-Agg a).children) (out-Agg a).kind in
    all-rose (bytes_after step (rows_at shard c.args.rows.now) (shown_level shard c.args.ready.now c.args.level.now)) c.loop-place.place (length c.args.rows.now) c.args.added.now.items c.loop-place.added.items c.loop-place.invariant.rising (omega (arith, c.loop-place-test.false))
