-- What a result stands for, and what holds of it and its pass, wherever it lies ('Search API': `batched_reduce_size`,
-- `allow_partial_search_results`; 'Circuit breaker settings').
use Rattle.std.specs.Prelude.{◌≡◌, ◌≤◌, ◌<◌, ℕ, ◌+◌, Bool, true, false, ◌||◌, List, [], map, length, sum_by, option_to_list, is_some, None}
use Rattle.std.specs.List.{AllByRecursion}
use Rattle.agg_evaluation.specs.Cost.{cost}
use Rattle.agg_model.specs.declared.breaker.Which.{Which}
use Rattle.agg_spec.specs.Outcome.{whole_unless_none}
use Rattle.agg_spec.specs.Rises.{merge_charge}
use Rattle.arrival_moves.specs.declared.label.Label.{Label}
use Rattle.batch_reduce.specs.Reduced.{at_both}
use Rattle.breaker_words.specs.Breakers.{counter_value}
use Rattle.breaker_words.specs.Passes.{PassModel}
use Rattle.breaker_words.specs.Views.{granted_of}
use Rattle.pool_results.specs.Passes.{IsPassOf}
use Rattle.pool_results.specs.Pools.{Pool, cost_at, gross_at, peak_at, search_at, shard_count, task_number}
use Rattle.pool_results.specs.Runs.{failures_in, left_in, shards_in}
use Rattle.pool_results.specs.declared.shard_run.ShardRun.{ShardRun}
use Rattle.pool_results.specs.declared.work.Work.{Work}

-- the search was refused, or found no memory
abbrev pub has_failed : Work → Bool
has_failed w = is_some w.refused || w.memory

-- so that it has no result any more
abbrev pub is_stopped : Work → Bool
is_stopped w = has_failed w || w.skipped

abbrev pub label_of : Pool → Work → Label
label_of p w = record { tasks = map (task_number p w.search) (shards_in w.runs); failed = has_failed w; skipped = w.skipped }

-- the task of the shard had room
pub record PeakFits (p : Pool) (q s : ℕ) : Type 0 where
  pub at_request : peak_at p q s ≤ p.words.limits.request
  pub at_parent : peak_at p q s ≤ p.words.limits.parent

-- tasks of one search, which may leave shards out where it allows that
pub record AreRuns (p : Pool) (q : ℕ) (runs : List ShardRun) : Type 0 where
  pub search : q < length p.searches
  pub shards : AllByRecursion (λ s. s < shard_count p) (shards_in runs)
  pub allowed : (search_at p q).partial ≡ false → failures_in runs ≡ []

pub record IsCarried (p : Pool) (w : Work) (pass : PassModel) : Type 0 where
  pub runs : AreRuns p w.search w.runs
  pub charge : IsPassOf p w.search w.runs w.refused (sum_by cost (option_to_list w.part)) pass
  pub stopped : is_stopped w ≡ true → w.part ≡ None
  pub whole : is_stopped w ≡ false → w.part ≡ whole_unless_none p.index (search_at p w.search) (left_in w.runs)
  pub fits : is_stopped w ≡ false → AllByRecursion (PeakFits p w.search) (left_in w.runs)
  -- where no shard is left out, all charges of the tasks were granted, and that of the merge of two or more
  pub granted : is_stopped w ≡ false → failures_in w.runs ≡ [] → (x : Which) → granted_of pass.view x
      ≡ counter_value (at_both (sum_by (gross_at p w.search) (shards_in w.runs) + merge_charge (map (cost_at p w.search) (shards_in w.runs))) x)
