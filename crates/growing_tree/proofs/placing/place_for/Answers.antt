use Rattle.std.proofs.Common.{◌∙◌, ◌≡◌, ◌<◌, arith, length, rules, w64}
use Rattle.std.proofs.lemmas.Int.{to_z-of_z}
use Rattle.growing_tree.proofs.Levels.{level-ready}
use Rattle.growing_tree.proofs.Placed.{IsPlace, place-begun, place-found}
use Rattle.growing_tree.proofs.placing.place_for.Goals as goal

pub bucket_bytes-requires : goal.bucket_bytes-requires
bucket_bytes-requires c = let h = (level-ready c.args.shard.now c.args.agg.now c.args.ready.now c.requires.ready).kind in record { ready = h }

found : (c : goal.Else-place-len)
    → IsPlace c.args.shard.now c.args.agg.now c.args.ready.now c.args.code c.args.measured.now (record { places = c.find_or_add.new.self; counts = c.args.measured.now.counts; columns = c.args.measured.now.columns }) c.in-Found.place 0
found c =
    let within : c.in-Found.place < length c.args.measured.now.counts.items = omega (arith, c.if-place-len.false, c.len.ensures, c.args.measured.now.counts.ok) in
    place-found c.args.shard.now c.args.agg.now c.args.ready.now c.requires.ready c.requires.metrics c.args.code _ (to_z-of_z w64 c.args.code (search rules)) c.args.measured.now
    c.find_or_add.new.self c.in_ok-found.found c.in_ok-found.ensures.place c.in_ok-found.ensures.distinct c.in-Found.place c.in-Found.is within

pub returns-else-place-len-clause-buckets : goal.returns-else-place-len-clause-buckets
returns-else-place-len-clause-buckets c placements row below = (found c placements row below).buckets

pub returns-else-place-len-clause-cost : goal.returns-else-place-len-clause-cost
returns-else-place-len-clause-cost c placements row below = (found c placements row below).cost

begun : (c : goal.In_ok-begin_measured-in-Added)
    → IsPlace c.args.shard.now c.args.agg.now c.args.ready.now c.args.code c.args.measured.now (record { places = c.find_or_add.new.self; counts = c.begin_measured.new.counts; columns = c.begin_measured.new.columns }) c.in-Added.place c.in_ok-begun-in-Added.begun
begun c =
    let new = c.in_ok-begin_measured-in-Added.ensures in
    let end : c.in-Added.place ≡ length c.args.measured.now.counts.items = omega (arith, c.if-place-len-2.false, c.len-in-Added.ensures, c.args.measured.now.counts.ok) in
    place-begun c.args.shard.now c.args.agg.now c.args.ready.now c.requires.ready c.requires.metrics c.args.code _ (to_z-of_z w64 c.args.code (search rules)) c.args.measured.now
    c.find_or_add.new.self c.in_ok-found.found c.in_ok-found.ensures.place c.in_ok-found.ensures.distinct c.in-Added.place c.in-Added.is end
    c.in_ok-begun-in-Added.begun c.in_ok-begun-in-Added.ensures c.begin_measured.new.counts new.count c.begin_measured.new.columns new.same (new.many ∙ c.len-in-Added-2.ensures) new.here

pub returns-in_ok-begin_measured-in-Added-clause-buckets : goal.returns-in_ok-begin_measured-in-Added-clause-buckets
returns-in_ok-begin_measured-in-Added-clause-buckets c placements row below = (begun c placements row below).buckets

pub returns-in_ok-begin_measured-in-Added-clause-cost : goal.returns-in_ok-begin_measured-in-Added-clause-cost
returns-in_ok-begin_measured-in-Added-clause-cost c placements row below = (begun c placements row below).cost
