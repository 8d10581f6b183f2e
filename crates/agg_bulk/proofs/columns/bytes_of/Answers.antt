use Rattle.std.proofs.Common.{◌+◌, ap, arith}
use Rattle.std.proofs.lemmas.List.Sums.{sum_by_more, sum_by-take-le}
use Rattle.agg_bulk.specs.ColumnBytes.{bytes_in}
use Rattle.agg_bulk.proofs.columns.bytes_of.Goals as goal

pub loop-shard-preserved : goal.loop-shard-preserved
loop-shard-preserved c =
    let shards = c.args.shards.now in
    let i = c.loop-shard.shard-index in
    let item = c.shard-item.result in
    let more = sum_by_more bytes_in shards i item c.loop-shard-test.true in
    let one = ap bytes_in c.shard-item.is in
    omega (arith, more, one, c.column_bytes-bytes.ensures, c.loop-shard.invariant)

pub overflow_add-bytes : goal.overflow_add-bytes
overflow_add-bytes c =
    let shards = c.args.shards.now in
    let i = c.loop-shard.shard-index in
    let item = c.shard-item.result in
    let more = sum_by_more bytes_in shards i item c.loop-shard-test.true in
    let one = ap bytes_in c.shard-item.is in
    let within = sum_by-take-le bytes_in shards (i + 1) in
    omega (arith, more, one, within, c.column_bytes-bytes.ensures, c.loop-shard.invariant, c.requires)
