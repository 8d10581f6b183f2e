use Rattle.std.proofs.Common.{◌≡◌, length}
use Rattle.shard_columns.specs.Dictionary.{words_of}
use Rattle.shard_tests.proofs.counts.costs.Given as goal

abbrev pub invariant-loop-row : goal.invariant-loop-row
invariant-loop-row l = length l.counts ≡ length (words_of 0 l.shard.rows)
