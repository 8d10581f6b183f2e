use Rattle.std.proofs.Common.{arith, rules, ◌≡◌, ◌<◌, ◌+◌, ◌∷◌, [], length, get_or, w64, to_z, of_z, pos}
use Rattle.std.proofs.lemmas.Int.{to_z-of_z}
use Rattle.std.proofs.lemmas.Option.{slice_get-get_or}
use Rattle.agg_model.specs.declared.aggregation.Agg.{out-Agg}
use Rattle.agg_evaluation.specs.Rows.{row_of}
use Rattle.growing_tree.specs.Gathered.{gatherers, key_at}
use Rattle.growing_tree.proofs.Steps.{one-more-code}
use Rattle.growing_tree.proofs.at_codes.put_at.Goals as goal

pub loop-place-preserved : goal.loop-place-preserved
loop-place-preserved g c =
    let shard = c.args.shard.now in
    let a = c.args.agg.now in
    let r = c.args.ready.now in
    let place = c.loop-place.place in
    let codes = c.args.codes.now in
    let code = get_or codes place (pos 0) in
    let same : to_z w64 (of_z w64 code) ≡ code = to_z-of_z w64 code (search rules) in
    let below : place < length codes = omega (arith, c.loop-place-test.true) in
    let more = c.in_ok-more.ensures.cost in
    let before = c.loop-place.invariant.cost in
    let added : c.in_ok-added.added ≡ c.loop-place.added + c.in_ok-more.more = c.in_ok-added.ensures in
    (record {
      buckets = one-more-code (row_of shard.rows c.args.row ∷ []) (gatherers shard (out-Agg a).children) (key_at shard r) codes place code _
          (g.T.TakesRow.shown shard a r c.args.buckets.now c.args.waiting.now) (g.T.TakesRow.shown shard a r c.loop-place.buckets c.loop-place.waiting) (g.T.TakesRow.shown shard a r c.put.new.self c.put.new.waiting)
          same (slice_get-get_or codes place (pos 0) below) c.loop-place.invariant.buckets c.in_ok-more.ensures.buckets;
      cost = omega arith;
      fit = c.in_ok-more.ensures.fit;
      stays = g.met.T.TakesRow.stays_more c.args.buckets.now c.loop-place.buckets c.put.new.self c.loop-place.invariant.stays c.put.ensures.stays;
    })

pub returns-in_err-more-clause-stays : goal.returns-in_err-more-clause-stays
returns-in_err-more-clause-stays g c = g.met.T.TakesRow.stays_more c.args.buckets.now c.loop-place.buckets c.put.new.self c.loop-place.invariant.stays c.put.ensures.stays
