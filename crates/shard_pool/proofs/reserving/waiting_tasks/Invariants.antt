use Rattle.std.proofs.Common.{◌≡◌, ◌++◌, map}
use Rattle.shard_pool.proofs.Rows.{row}
use Rattle.shard_pool.proofs.reserving.waiting_tasks.Given as goal
use Rattle.shard_pool.specs.Tasks.{place_of, task_places}

abbrev pub invariant-loop-search : goal.invariant-loop-search
invariant-loop-search l = map place_of l.tasks.items ≡ task_places l.search l.shards

abbrev pub invariant-loop-shard : goal.invariant-loop-shard
invariant-loop-shard l = map place_of l.tasks.items ≡ task_places l.search l.shards ++ row l.shard l.search
