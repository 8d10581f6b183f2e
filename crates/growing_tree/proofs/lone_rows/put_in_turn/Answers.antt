use Rattle.std.proofs.Common.{sym, ◌∙◌, ap, arith, ◌≡◌, ◌<◌, ◌+◌, ◌∷◌, [], length, map, take, get_or}
use Rattle.std.proofs.lemmas.Option.{slice_get-get_or}
use Rattle.list_laws.proofs.Lists.{map-append}
use Rattle.agg_model.specs.declared.aggregation.Agg.{out-Agg}
use Rattle.agg_evaluation.specs.Keys.{keys}
use Rattle.agg_evaluation.specs.Rows.{row_of}
use Rattle.growth_laws.specs.Gathering.{gathered_buckets}
use Rattle.growing_tree.specs.Gathered.{decoders, gatherers, key_at, shown_level}
use Rattle.growing_tree.specs.Shown.{put_all}
use Rattle.growing_tree.specs.declared.ready.Ready.{out-Ready}
use Rattle.growing_tree.proofs.Ascents.{level-up}
use Rattle.growing_tree.proofs.Codes.{codes-own}
use Rattle.growing_tree.proofs.Counting.{keyed-keeps}
use Rattle.growing_tree.proofs.Levels.{level-ready}
use Rattle.growing_tree.proofs.Steps.{take-more}
use Rattle.growing_tree.proofs.Turns.{metrics-steps, one-more}
use Rattle.growing_tree.proofs.lone_rows.put_in_turn.Goals as goal

pub loop-row-preserved : goal.loop-row-preserved
loop-row-preserved c =
    let shard = c.args.shard.now in
    let a = c.args.agg.now in
    let k = (out-Agg a).kind in
    let r = c.args.ready.now in
    let key_of = key_at shard r in
    let ds = decoders shard (out-Ready r).children in
    let gs = gatherers shard (out-Agg a).children in
    let row_at = row_of shard.rows in
    let items = c.args.rows.now in
    let i = c.loop-row.row-index in
    let row = get_or items i 0 in
    let l : i < length items = omega (arith, c.loop-row-test.true) in
    let buckets = shown_level shard r c.args.level.now in
    let ready = (level-ready shard a r c.requires.ready).kind in
    let own = codes-own shard k (out-Ready r).kind ready in
    let more = c.in_ok-more.ensures.cost in
    let before = c.loop-row.invariant.cost in
    let added : c.in_ok-added.added ≡ c.loop-row.added + c.in_ok-more.more = c.in_ok-added.ensures in
    (record {
      buckets = c.in_ok-more.ensures.buckets
          ∙ ap (put_all (λ q. row_at row ∷ []) gs (keys shard.rows k (row_at row))) c.loop-row.invariant.buckets
          ∙ one-more gs (metrics-steps shard.rows (out-Agg a).children c.requires.metrics) shard.rows k (map row_at (take i items)) (row_at row) buckets
          (keyed-keeps shard k (out-Ready r).kind ready c.requires.keyed) (level-up ds key_of own c.args.level.now c.requires.aligned)
          ∙ ap (λ rs. gathered_buckets shard.rows gs k rs buckets) (sym (ap (map row_at) (take-more items i row (slice_get-get_or items i 0 l)) ∙ map-append row_at (take i items) (row ∷ [])));
      cost = omega arith;
      form = λ bs. c.put_alone.ensures.stays.form bs ∙ c.loop-row.invariant.form bs;
      aligned = λ h. c.put_alone.ensures.stays.aligned (c.loop-row.invariant.aligned h);
    })
