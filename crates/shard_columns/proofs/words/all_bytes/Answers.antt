use Rattle.std.proofs.Common.{length, [], ap, arith}
use Rattle.std.specs.Prelude.{sum_by}
use Rattle.std.proofs.lemmas.List.Sums.{sum_by_more}
use Rattle.std.proofs.lemmas.List.{get_or_read}
use Rattle.shard_columns.specs.Values.{Words}
use Rattle.shard_columns.proofs.words.all_bytes.Goals as goal

pub loop-list-preserved : goal.loop-list-preserved
loop-list-preserved c =
    let words = c.args.words.now in
    let i = c.loop-list.list-index in
    let item = c.list-item.result in
    let more = sum_by_more (λ (ws : Words). sum_by length ws) words i item c.loop-list-test.true in
    let bytes = c.total-bytes.ensures in
    let one = ap (λ (ws : Words). sum_by length ws) c.list-item.is in
    let read = ap (λ (ws : Words). sum_by length ws) (get_or_read words i item c.loop-list-test.true c.list-item.is []) in
    let low = c.requires.light i in
    record {
      bytes_are = omega (arith, more, bytes, one, c.loop-list.invariant.bytes_are);
      light = omega (arith, bytes, read, low, c.loop-list.invariant.light);
    }
