-- The tasks of a pool in their order: search by search, and shard by shard within each ('Search API').
use Rattle.std.specs.Prelude.{ℕ, List, flat_map, map}
use Rattle.std.specs.List.{range_with_len}
use Rattle.shard_pool.specs.declared.waiting.Waiting.{Waiting}

-- the search and the shard of each task
abbrev pub task_places : ℕ → ℕ → List (ℕ × ℕ)
task_places searches shards = flat_map (λ q. map (λ s. (q, s)) (range_with_len 0 shards)) (range_with_len 0 searches)

-- those of a task that waits for its pass
abbrev pub place_of : Waiting → ℕ × ℕ
place_of w = (w.search, w.shard)
