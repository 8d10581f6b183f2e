use Rattle.std.proofs.Common.{◌≡◌, replicate}
use Rattle.shard_pool.specs.Gathered.{no_results}
use Rattle.shard_pool.proofs.room.end_room.Given as goal

abbrev pub invariant-loop-search : goal.invariant-loop-search
invariant-loop-search l = l.gathered.items ≡ replicate l._search no_results
