use Rattle.std.proofs.Common.{◌∙◌, ap, arith, ◌<◌, ◌+◌, length, sum_by, refl, ℕ}
use Rattle.std.proofs.lemmas.List.{get_or_read}
use Rattle.agg_model.specs.declared.aggregation.Agg.{out-Agg}
use Rattle.agg_evaluation.specs.Rows.{row_of}
use Rattle.evaluation_laws.proofs.CostLaws.{bytes}
use Rattle.growing_tree.specs.Gathered.{gatherers, rows_at}
use Rattle.growing_tree.specs.GatheredEach.{bytes_after, put_at_keys}
use Rattle.growing_tree.proofs.Each.{after-all, one-in-turn}
use Rattle.growing_tree.proofs.Rises.{all-rose, rising-more, rising-none}
use Rattle.growing_tree.proofs.at_codes.put_each_alone.Goals as goal

pub loop-place-preserved : goal.loop-place-preserved
loop-place-preserved g c =
    let shard = c.args.shard.now in
    let a = c.args.agg.now in
    let r = c.args.ready.now in
    let step = put_at_keys shard.rows (gatherers shard (out-Agg a).children) (out-Agg a).kind in
    let row_at = row_of shard.rows in
    let rows = c.args.rows.now in
    let i = c.loop-place.place in
    let old = g.T.TakesRow.shown shard a r c.args.buckets.now c.args.waiting.now in
    let now = c.loop-place.added.items in
    let more = c.in_ok-more.more in
    let rising = c.loop-place.invariant.rising in
    let below : i < length rows = omega (arith, c.loop-place-test.true) in
    let within : i < length now = (let many = rising.rises.many in omega (arith, many, c.requires.many, below)) in
    let turn = one-in-turn step (sum_by bytes) row_at rows i more old (g.T.TakesRow.shown shard a r c.loop-place.buckets c.loop-place.waiting) (g.T.TakesRow.shown shard a r c.put_alone.new.buckets c.put_alone.new.waiting) below c.loop-place.invariant.buckets c.in_ok-more.ensures.buckets c.in_ok-more.ensures.cost in
    record {
      buckets = turn.0;
      rising = rising-more (bytes_after step (rows_at shard rows) old) i more c.in_ok-next.next c.args.added.now.items now rising within turn.1 (c.in_ok-next.ensures ∙ ap (λ (k : ℕ). k + more) (get_or_read now i c.index.result.now within c.index.ensures 0));
      fit = c.in_ok-more.ensures.fit;
      stays = g.met.T.TakesRow.stays_more c.args.buckets.now c.loop-place.buckets c.put_alone.new.buckets c.loop-place.invariant.stays c.put_alone.ensures.stays;
    }

pub loop-place-init : goal.loop-place-init
loop-place-init g c =
    let shard = c.args.shard.now in
    let a = c.args.agg.now in
    record {
      buckets = refl;
      rising = rising-none (bytes_after (put_at_keys shard.rows (gatherers shard (out-Agg a).children) (out-Agg a).kind) (rows_at shard c.args.rows.now) (g.T.TakesRow.shown shard a c.args.ready.now c.args.buckets.now c.args.waiting.now)) c.args.added.now.items;
      fit = c.requires.fit;
      stays = g.met.T.TakesRow.stays_none c.args.buckets.now;
    }

pub returns-clause-buckets : goal.returns-clause-buckets
returns-clause-buckets g c =
    let shard = c.args.shard.now in
    let a = c.args.agg.now in
    let step = put_at_keys shard.rows (gatherers shard (out-Agg a).children) (out-Agg a).kind in
    c.loop-place.invariant.buckets ∙ after-all step (row_of shard.rows) c.args.rows.now c.loop-place.place (g.T.TakesRow.shown shard a c.args.ready.now c.args.buckets.now c.args.waiting.now) (omega (arith, c.loop-place-test.false))

pub returns-clause-rises : goal.returns-clause-rises
returns-clause-rises g c =
    let shard = c.args.shard.now in
    let a = c.args.agg.now in
    let step = put_at_keys shard.rows (gatherers shard (out-Agg a).children) (out-Agg a).kind in
    all-rose (bytes_after step (rows_at shard c.args.rows.now) (g.T.TakesRow.shown shard a c.args.ready.now c.args.buckets.now c.args.waiting.now)) c.loop-place.place (length c.args.rows.now) c.args.added.now.items c.loop-place.added.items c.loop-place.invariant.rising (omega (arith, c.loop-place-test.false))

pub returns-in_err-more-clause-stays : goal.returns-in_err-more-clause-stays
returns-in_err-more-clause-stays g c = g.met.T.TakesRow.stays_more c.args.buckets.now c.loop-place.buckets c.put_alone.new.buckets c.loop-place.invariant.stays c.put_alone.ensures.stays
