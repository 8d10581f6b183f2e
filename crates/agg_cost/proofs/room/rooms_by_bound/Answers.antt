use Rattle.std.proofs.Common.{◌≡◌, ◌+◌, List, map, take, sym, ◌∙◌, ap, subst, arith, Some}
use Rattle.std.specs.Prelude.{ℕ, slice_get, sum}
use Rattle.agg_evaluation.specs.Ceiling.{ceiling}
use Rattle.shard_columns.specs.Columns.{Columns}
use Rattle.shard_columns.specs.Index.{rows_by_shard}
use Rattle.agg_cost.specs.Searches.{AreRoomsFor, kinds_of}
use Rattle.agg_cost.proofs.EachRoom.{room-more, sum-room}
use Rattle.agg_cost.proofs.Summing.{by-mapping, here, one-shard, search-made}
use Rattle.agg_cost.proofs.room.rooms_by_bound.Goals as goal

pub task_most-requires : goal.task_most-requires
task_most-requires c =
    let index = c.args.index.now in
    let items = c.as_slice-shard-items.result.now in
    let at : slice_get items c.loop-shard.shard-index ≡ Some c.shard-item.result = here items c.loop-shard.shard-index c.shard-item.result c.loop-shard-test.true c.shard-item.is in
    search-made index.mapping c.shard-item.result c.args.search.now c.requires.made
    (one-shard index.mapping index.shards c.loop-shard.shard-index c.shard-item.result (subst (λ (xs : List Columns). slice_get xs c.loop-shard.shard-index ≡ Some c.shard-item.result) c.as_slice-shard-items.ensures at) index.built)

pub loop-shard-preserved : goal.loop-shard-preserved
loop-shard-preserved c =
    let index = c.args.index.now in
    let search = c.args.search.now in
    let items = c.as_slice-shard-items.result.now in
    let i = c.loop-shard.shard-index in
    let s = c.shard-item.result in
    let at : slice_get items i ≡ Some s = here items i s c.loop-shard-test.true c.shard-item.is in
    let of = one-shard index.mapping index.shards i s (subst (λ (xs : List Columns). slice_get xs i ≡ Some s) c.as_slice-shard-items.ensures at) index.built in
    let task = c.in-Some.ensures in
    let kinds = kinds_of index.mapping in
    let pushed = c.in_ok-push.ensures.items in
    record {
      rooms = subst (λ (xs : List ℕ). AreRoomsFor xs (map (ceiling kinds search) (rows_by_shard (take (i + 1) items)))) (sym pushed)
          (room-more kinds search items i s c.loop-shard.all.items c.in-Some.most at (record { bytes = task.bytes; is = sym (by-mapping index.mapping s search of) ∙ task.is; low = task.low }) c.loop-shard.invariant.rooms);
      sum_is = (let new = ap sum pushed ∙ sum-room c.loop-shard.all.items c.in-Some.most in let old = c.loop-shard.invariant.sum_is in
          let added = c.saturating_add-bytes.ensures in let low = c.if-bytes-gt-GREATEST_CEILING.false in omega (arith, new, old, added, low));
      within = omega (arith, c.if-bytes-gt-GREATEST_CEILING.false);
    }
