use Rattle.std.proofs.Common.{◌≡◌, map, take}
use Rattle.agg_evaluation.specs.Ceiling.{greatest_of}
use Rattle.shard_columns.specs.Values.{held_count}
use Rattle.shard_columns.proofs.held_rows.most_of.Given as goal

abbrev pub invariant-loop-one : goal.invariant-loop-one
invariant-loop-one l = l.most ≡ greatest_of (map held_count (take l.one-index l.held))
