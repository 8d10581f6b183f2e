-- The plan of the table: the tasks of all searches, search by search, in batches of one size ('Search API').
use Rattle.std.specs.Prelude.{ℕ, flat_map, length, replicate}
use Rattle.std.specs.List.{range_with_len}
use Rattle.arrival_moves.specs.declared.plan.Plan.{Plan}
use Rattle.pool_results.specs.Pools.{Pool, shard_count}

abbrev pub plan_of : Pool → ℕ → Plan
plan_of p size = record {
  tasks = flat_map (λ q. replicate (shard_count p) q) (range_with_len 0 (length p.searches));
  searches = length p.searches;
  batch = size;
}
