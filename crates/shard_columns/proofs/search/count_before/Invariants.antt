use Rattle.std.proofs.Common.{◌-◌}
use Rattle.shard_columns.proofs.Searching.{IsNarrowed}
use Rattle.shard_columns.proofs.search.count_before.Given as goal

abbrev pub invariant-loop-start : goal.invariant-loop-start
invariant-loop-start l = IsNarrowed l.words l.word l.start l.end

abbrev pub decreases-loop-start : goal.decreases-loop-start
decreases-loop-start l = l.end - l.start
