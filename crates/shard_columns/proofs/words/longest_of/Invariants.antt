use Rattle.std.proofs.Common.{◌≡◌, length, map, take}
use Rattle.agg_evaluation.specs.Ceiling.{greatest_of}
use Rattle.shard_columns.proofs.words.longest_of.Given as goal

abbrev pub invariant-loop-place : goal.invariant-loop-place
invariant-loop-place l = l.longest ≡ greatest_of (map length (take l.place l.words))
