-- What closing the table of a pool gives ('Search API': `batched_reduce_size`, `allow_partial_search_results`).
use Rattle.std.specs.Prelude.{◌≡◌, ℕ, ◌<◌, ◌*◌, ◌==◌, IsTrue, List, All, map, filter, flat_map, length, sum_by}
use Rattle.std.specs.List.{AllByRecursion}
use Rattle.arrival_moves.specs.declared.plan.Plan.{Plan}
use Rattle.arrival_moves.specs.Labels.{task_times}
use Rattle.arrival_moves.specs.Plans.{search_of, task_count, tasks_of}
use Rattle.arrival_table.specs.Closing.{IsBesideFailed, IsWholeBatch, all_batches, batch_of}
use Rattle.arrival_table.specs.declared.table.Merged.{Merged}
use Rattle.pool_results.specs.Carried.{AreRuns, label_of}
use Rattle.pool_results.specs.Pools.{Pool, shard_count, task_number}
use Rattle.pool_results.specs.Runs.{shards_in}
use Rattle.pool_results.specs.declared.shard_run.ShardRun.{ShardRun}
use Rattle.pool_results.specs.declared.work.Work.{Work}
use Rattle.shard_pool.specs.TaskResults.{HaveEachTask}

-- the plan has the tasks of the pool, search by search, in batches of the size
pub record IsPlanOf (p : Pool) (size : ℕ) (plan : Plan) : Type 0 where
  pub searches : plan.searches ≡ length p.searches
  pub batch : plan.batch ≡ size
  pub count : task_count plan ≡ length p.searches * shard_count p
  pub search : (q s : ℕ) → q < length p.searches → s < shard_count p → search_of plan (task_number p q s) ≡ q
  pub tasks : (q : ℕ) → q < length p.searches → tasks_of plan q ≡ shard_count p

-- the merged results that a close gives
pub record AreClosed {R : Type 0} (work : R → Work) (p : Pool) (plan : Plan) (ms : List (Merged R)) : Type 0 where
  pub batches : map batch_of ms ≡ all_batches plan
  pub whole : All (IsWholeBatch (λ r. label_of p (work r)) plan) ms
  pub once : (k : ℕ) → k < task_count plan → sum_by (λ (m : Merged R). task_times k (label_of p (work m.result))) ms ≡ 1
  pub skipped : All (λ (m : Merged R). IsTrue (label_of p (work m.result)).skipped → IsBesideFailed (λ r. label_of p (work r)) ms m) ms
  pub runs : AllByRecursion (λ (m : Merged R). AreRuns p (work m.result).search (work m.result).runs) ms

-- what became of the tasks, result by result; of those of the search q, and all its runs
abbrev pub works : {R : Type 0} → (R → Work) → List (Merged R) → List Work
works work ms = map (λ m. work m.result) ms

abbrev pub works_of : ℕ → List Work → List Work
works_of q ws = filter (λ (w : Work). w.search == q) ws

abbrev pub runs_of : ℕ → List Work → List ShardRun
runs_of q ws = flat_map (λ (w : Work). w.runs) (works_of q ws)

-- the results have each task of the pool once
abbrev pub HaveAllTasks : Pool → List Work → Type 0
HaveAllTasks p ws = HaveEachTask (λ (w : Work). w.search) (λ (w : Work). shards_in w.runs) (length p.searches) (shard_count p) ws
