use Rattle.std.proofs.Common.{◌≡◌, ◌≤◌, List, length, sym, ◌∙◌, subst, Some}
use Rattle.std.specs.Prelude.{slice_get}
use Rattle.shard_columns.specs.Columns.{Columns}
use Rattle.agg_cost.specs.Searches.{kinds_of}
use Rattle.agg_cost.proofs.Narrowness.{FirstAtMost, search-narrow, shard-more}
use Rattle.agg_cost.proofs.Summing.{by-mapping, here, one-shard, search-made}
use Rattle.agg_cost.proofs.width.search_most.Goals as goal

pub task_most-requires : goal.task_most-requires
task_most-requires c =
    let index = c.args.index.now in
    let items = c.as_slice-shard-items.result.now in
    let at : slice_get items c.loop-shard.shard-index ≡ Some c.shard-item.result = here items c.loop-shard.shard-index c.shard-item.result c.loop-shard-test.true c.shard-item.is in
    search-made index.mapping c.shard-item.result c.args.search.now c.requires
    (one-shard index.mapping index.shards c.loop-shard.shard-index c.shard-item.result (subst (λ (xs : List Columns). slice_get xs c.loop-shard.shard-index ≡ Some c.shard-item.result) c.as_slice-shard-items.ensures at) index.built)

pub loop-shard-preserved : goal.loop-shard-preserved
loop-shard-preserved c =
    let index = c.args.index.now in
    let search = c.args.search.now in
    let items = c.as_slice-shard-items.result.now in
    let i = c.loop-shard.shard-index in
    let s = c.shard-item.result in
    let at : slice_get items i ≡ Some s = here items i s c.loop-shard-test.true c.shard-item.is in
    let of = one-shard index.mapping index.shards i s (subst (λ (xs : List Columns). slice_get xs i ≡ Some s) c.as_slice-shard-items.ensures at) index.built in
    let task = c.in_ok-task_most.ensures in
    shard-more (kinds_of index.mapping) search items i s c.loop-shard.bytes c.in_ok-task_most.field-0 c.in_ok-bytes.bytes at
    (record { bytes = task.bytes; is = sym (by-mapping index.mapping s search of) ∙ task.is; low = task.low }) c.in_ok-bytes.ensures.1 c.loop-shard.invariant

pub returns : goal.returns
returns c =
    let index = c.args.index.now in
    let kinds = kinds_of index.mapping in
    let shards = c.as_slice-shard-items.ensures in
    search-narrow kinds c.args.search.now index.shards c.loop-shard.shard-index c.loop-shard.bytes (subst (λ (xs : List Columns). length xs ≤ c.loop-shard.shard-index) shards c.loop-shard-test.false)
    (subst (λ (xs : List Columns). FirstAtMost kinds c.args.search.now c.loop-shard.bytes xs c.loop-shard.shard-index) shards c.loop-shard.invariant) c.within_greatest.result c.within_greatest.ensures
