use Rattle.std.proofs.Common.{◌≡◌, length, map, take}
use Rattle.agg_evaluation.specs.Counters.{raised_by}
use Rattle.shard_columns.specs.Dictionary.{words_of}
use Rattle.terms_agg.specs.Counts.{counted, new_bucket_bytes, word_key}
use Rattle.terms_agg.proofs.counts.Counts.count.Given as goal

abbrev pub invariant-loop-ordinal : goal.invariant-loop-ordinal
invariant-loop-ordinal l =
    let words = words_of l.field l.shard.rows in
    let keys = take l.ordinal-index (map (word_key words) l.ordinal-items) in
    let before = counted words l.initial.self in
    record {
      many : length l.self ≡ length l.initial.self;
      counters : counted words l.self ≡ raised_by keys before;
      bytes : l.bytes ≡ new_bucket_bytes before keys;
    }
