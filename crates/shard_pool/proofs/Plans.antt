-- The plan of a pool's table has the pool's tasks.
use Rattle.std.specs.Prelude.{◌≡◌, refl, ℕ, ◌-◌, ◌*◌, ◌<◌, min, length}
use Rattle.std.proofs.Common.{◌∙◌, ap}
use Rattle.arrival_moves.specs.declared.plan.Plan.{Plan}
use Rattle.arrival_moves.specs.Plans.{batch_size}
use Rattle.pool_results.specs.Pools.{Pool, shard_count}
use Rattle.pool_worker.specs.Plans.{plan_of}
use Rattle.pool_worker.proofs.Tasks.{count-is, search-is, tasks-are}
use Rattle.shard_pool.specs.Closed.{IsPlanOf}

pub plan-known : (p : Pool) (size : ℕ) → IsPlanOf p size (plan_of p size)
plan-known p size = record { searches = refl; batch = refl; count = count-is p size; search = search-is p size; tasks = tasks-are p size }

-- how many tasks a batch has
pub batch-size-is : (p : Pool) (size : ℕ) (plan : Plan) → IsPlanOf p size plan → (q b : ℕ) → q < length p.searches → batch_size plan q b ≡ min size (shard_count p - b * size)
batch-size-is p size plan of q b low = ap (λ n. min plan.batch (n - b * plan.batch)) (of.tasks q low) ∙ ap (λ k. min k (shard_count p - b * k)) of.batch
