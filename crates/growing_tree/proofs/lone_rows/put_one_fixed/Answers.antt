use Rattle.std.proofs.Common.{sym, ◌∙◌, ap, arith, rules, ◌≡◌, ◌<◌, ◌+◌, ◌∷◌, [], length, sum_by, w64, to_z, of_z, pos}
use Rattle.std.proofs.lemmas.Int.{to_z-of_z}
use Rattle.agg_model.specs.declared.aggregation.Agg.{out-Agg}
use Rattle.agg_evaluation.specs.Cost.{node_cost}
use Rattle.agg_evaluation.specs.Rows.{row_of}
use Rattle.growth_laws.specs.Gathering.{put_rows}
use Rattle.growing_tree.specs.Codes.{fixed_key}
use Rattle.growing_tree.specs.Gathered.{decoders, gatherers, key_at, shown_children, shown_fixed}
use Rattle.growing_tree.specs.declared.ready.Ready.{out-Ready}
use Rattle.growing_tree.proofs.Putting.{number-bytes, put-number}
use Rattle.growing_tree.proofs.Steps.{item-at}
use Rattle.growing_tree.proofs.lone_rows.put_one_fixed.Goals as goal

pub returns-clause-buckets : goal.returns-clause-buckets
returns-clause-buckets c =
    let shard = c.args.shard.now in
    let a = c.args.agg.now in
    let r = c.args.ready.now in
    let code = c.args.code in
    let ds = decoders shard (out-Ready r).children in
    let key_of = key_at shard r in
    let gs = gatherers shard (out-Agg a).children in
    let rows = row_of shard.rows c.args.row ∷ [] in
    let same : to_z w64 (of_z w64 code) ≡ code = to_z-of_z w64 code (search rules) in
    let is : key_of code ≡ fixed_key (pos c.in_ok-place.place) = c.requires.fixed code ∙ ap fixed_key (sym same ∙ c.in_ok-place.ensures) in
    let l : c.in_ok-place.place < length c.args.buckets.now.items = omega (arith, c.if-place-len.false, c.len.ensures, c.args.buckets.now.ok) in
    put-number gs rows ds key_of c.args.buckets.now.items 0 c.in_ok-place.place c.in_ok-place.place c.index_mut.result.now c.take_in_bucket.new.bucket (omega arith) (item-at c.args.buckets.now.items c.in_ok-place.place c.index_mut.result.now l c.index_mut.ensures.value) c.in_ok-take_in_bucket.ensures.bucket
    ∙ ap (λ k. put_rows gs rows k (shown_fixed shard r c.args.buckets.now.items)) (sym is)

pub returns-clause-cost : goal.returns-clause-cost
returns-clause-cost c =
    let shard = c.args.shard.now in
    let a = c.args.agg.now in
    let r = c.args.ready.now in
    let l : c.in_ok-place.place < length c.args.buckets.now.items = omega (arith, c.if-place-len.false, c.len.ensures, c.args.buckets.now.ok) in
    let level : sum_by node_cost (shown_children shard (out-Ready r).children c.take_in_bucket.new.bucket.children.items) ≡ sum_by node_cost (shown_children shard (out-Ready r).children c.index_mut.result.now.children.items) + 0 =
    (let same = c.in_ok-take_in_bucket.ensures.cost in omega arith) in
    let stays = number-bytes (gatherers shard (out-Agg a).children) (row_of shard.rows c.args.row ∷ []) (decoders shard (out-Ready r).children) (key_at shard r) c.args.buckets.now.items 0 c.in_ok-place.place
    c.index_mut.result.now c.take_in_bucket.new.bucket 0 (item-at c.args.buckets.now.items c.in_ok-place.place c.index_mut.result.now l c.index_mut.ensures.value) level in
    omega arith
