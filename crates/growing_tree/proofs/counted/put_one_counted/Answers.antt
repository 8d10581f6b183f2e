use Rattle.std.proofs.Common.{sym, ◌∙◌, ap, rules, ◌≡◌, ◌+◌, w64, to_z, of_z}
use Rattle.std.proofs.lemmas.Int.{to_z-of_z}
use Rattle.agg_evaluation.specs.Cost.{key_bytes}
use Rattle.growing_tree.specs.Gathered.{key_at}
use Rattle.growing_tree.specs.declared.ready.Ready.{out-Ready}
use Rattle.growing_tree.proofs.CountersRaised.{first-cost, first-row, later-cost, later-row}
use Rattle.growing_tree.proofs.Levels.{level-ready}
use Rattle.growing_tree.proofs.counted.put_one_counted.Goals as goal

pub returns-then-not-is_first-clause-buckets : goal.returns-then-not-is_first-clause-buckets
returns-then-not-is_first-clause-buckets c =
    let same : to_z w64 (of_z w64 c.args.code) ≡ c.args.code = to_z-of_z w64 c.args.code (search rules) in
    let rose = c.in_ok-is_first.ensures in
    later-row c.args.shard.now c.args.agg.now c.args.ready.now c.requires.ready c.args.code c.in_ok-place.place (sym same ∙ c.in_ok-place.ensures)
    c.args.counts.now c.raise.new.self rose.within rose.counters c.in_ok-is_first.is_first rose.first c.if-not-is_first.true

pub returns-then-not-is_first-clause-cost : goal.returns-then-not-is_first-clause-cost
returns-then-not-is_first-clause-cost c =
    let same : to_z w64 (of_z w64 c.args.code) ≡ c.args.code = to_z-of_z w64 c.args.code (search rules) in
    let rose = c.in_ok-is_first.ensures in
    later-cost c.args.shard.now c.args.agg.now c.args.ready.now c.requires.ready c.args.code c.in_ok-place.place (sym same ∙ c.in_ok-place.ensures)
    c.args.counts.now c.raise.new.self rose.within rose.counters c.in_ok-is_first.is_first rose.first c.if-not-is_first.true

pub bucket_bytes-requires : goal.bucket_bytes-requires
bucket_bytes-requires c = record { ready = (level-ready c.args.shard.now c.args.agg.now c.args.ready.now c.requires.ready).kind }

pub returns-clause-buckets : goal.returns-clause-buckets
returns-clause-buckets c =
    let same : to_z w64 (of_z w64 c.args.code) ≡ c.args.code = to_z-of_z w64 c.args.code (search rules) in
    let rose = c.in_ok-is_first.ensures in
    first-row c.args.shard.now c.args.agg.now c.args.ready.now c.requires.ready c.args.code c.in_ok-place.place (sym same ∙ c.in_ok-place.ensures)
    c.args.counts.now c.raise.new.self rose.within rose.counters c.in_ok-is_first.is_first rose.first (c.if-not-is_empty.ensures.0 (search rules))

pub returns-clause-cost : goal.returns-clause-cost
returns-clause-cost c =
    let r = c.args.ready.now in
    let same : to_z w64 (of_z w64 c.args.code) ≡ c.args.code = to_z-of_z w64 c.args.code (search rules) in
    let rose = c.in_ok-is_first.ensures in
    first-cost c.args.shard.now c.args.agg.now r c.requires.ready c.args.code c.in_ok-place.place (sym same ∙ c.in_ok-place.ensures)
    c.args.counts.now c.raise.new.self rose.within rose.counters c.in_ok-is_first.is_first rose.first c.if-not-is_first.false (c.if-not-is_empty.ensures.0 (search rules))
    c.in_ok-begun.begun (c.in_ok-begun.ensures ∙ ap (λ k. 128 + key_bytes (key_at c.args.shard.now r k) + (out-Ready r).child_bytes) same)
