use Rattle.std.proofs.Common.{◌≡◌, ◌++◌}
use Rattle.std.specs.LinkedList.{linked_list_len}
use Rattle.pool_results.specs.Runs.{failures_in}
use Rattle.shard_pool.proofs.gathered.push_failures.Given as goal

-- those that were told of, and then those that are still to be, are all
abbrev pub invariant-loop-run : goal.invariant-loop-run
invariant-loop-run l = l.failures ++ failures_in l.runs ≡ l.initial.failures ++ failures_in l.initial.runs

abbrev pub decreases-loop-run : goal.decreases-loop-run
decreases-loop-run l = linked_list_len l.runs
