use Rattle.std.proofs.Common.{take}
use Rattle.shard_columns.proofs.Storing.{AddsWords}
use Rattle.shard_columns.proofs.values.push_words.Given as goal

abbrev pub invariant-loop-value : goal.invariant-loop-value
invariant-loop-value l = AddsWords l.fn.numbers l.numbers l.field l.fn.words l.words (take l.value-index l.values) l.value-index
