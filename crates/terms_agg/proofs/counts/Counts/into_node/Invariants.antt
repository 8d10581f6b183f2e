use Rattle.std.proofs.Common.{◌≡◌, map, take}
use Rattle.shard_columns.specs.Dictionary.{words_of}
use Rattle.terms_agg.specs.Counts.{counted, counted_bucket}
use Rattle.terms_agg.proofs.counts.Counts.into_node.Given as goal

abbrev pub invariant-loop-ordinal : goal.invariant-loop-ordinal
invariant-loop-ordinal l = l.buckets.items ≡ map counted_bucket (counted (take l.ordinal (words_of l.field l.shard.rows)) l.fn.self)
