-- Where no answer is kept, a search with a cache is the search of one worker alone.
use Rattle.std.specs.Prelude.{◌≡◌, refl, ℕ, false, List, [], ◌∷◌, fold, Option, Some, None}
use Rattle.std.proofs.Common.{◌∙◌, ap, sym}
use Rattle.agg_model.specs.declared.aggregation.Search.{Search}
use Rattle.cache_spec.specs.declared.shard_search.ShardSearch.{ShardSearch}
use Rattle.agg_model.specs.declared.breaker.Limits.{Limits}
use Rattle.agg_model.specs.declared.breaker.Tripped.{Tripped}
use Rattle.agg_model.specs.declared.settings.Settings.{Settings}
use Rattle.cache_spec.specs.Cache.{Cached, added_unless, after_cached_batches, after_cached_task, after_cached_tasks, after_kept_task, cached_run, entry_of, on_going, reduced_cached, searched_cached, unless_stopped}
use Rattle.agg_spec.specs.Charges.{Run, run}
use Rattle.agg_spec.specs.Index.{Index}
use Rattle.agg_spec.specs.Outcome.{Request, running_search}
use Rattle.agg_spec.specs.Reduction.{Going, Task, after_batch, after_batches, after_last, after_task, after_tasks, batches, begun, reduced, task_ended, task_steps, tasks_of, unless_ended}
use Rattle.agg_spec.specs.Solo.{body_charged, responded, searched, solo_run}

abbrev without : Going → Cached
without going = record { going = going; entries = [] }

none-added : (o : Option Tripped) (e : ShardSearch) → added_unless 0 o e [] ≡ []
none-added None e = refl
none-added (Some t) e = refl

module _ (limits : Limits) (search : Search) where
  task-alone : (going : Going) (task : Task) → after_cached_task 0 limits search (without going) task ≡ without (after_task limits search going task)
  task-alone going task = by_refusal going.run.refused refl
    where
      by_refusal : (o : Option Tripped) → going.run.refused ≡ o
          → unless_stopped o (after_kept_task 0 limits search false (without going) task) (without going) ≡ without (after_task limits search going task)
      by_refusal None none =
          λ i. record { going = after_task limits search going task; entries = none-added (run limits going.run (task_steps task)).refused (entry_of search task.shard) i }
      by_refusal (Some t) ended =
          let after = run limits going.run (task_steps task) in
          ap without (sym (ap (λ o. unless_ended o (task_ended limits search after.refused task after going) going) ended))

  tasks-alone : (tasks : List Task) (going : Going) → after_cached_tasks 0 limits search (without going) tasks ≡ without (after_tasks limits search going tasks)
  tasks-alone [] going = refl
  tasks-alone (t ∷ tasks) going =
      ap (λ c. fold (after_cached_task 0 limits search) c tasks) (task-alone going t) ∙ tasks-alone tasks (after_task limits search going t)

  batches-alone : (parts : List (List Task)) (going : Going)
      → after_cached_batches 0 limits search (without going) parts ≡ without (after_batches limits search going parts)
  batches-alone [] going = refl
  batches-alone (tasks ∷ parts) going =
      ap (λ c. after_cached_batches 0 limits search (on_going (after_batch limits search) c) parts) (tasks-alone tasks going)
      ∙ batches-alone parts (after_batch limits search (after_tasks limits search going tasks))

  reduced-alone : (size : ℕ) (start : Run) (tasks : List Task)
      → reduced_cached 0 limits search size (without (begun start)) tasks ≡ without (reduced limits search size start tasks)
  reduced-alone size start tasks = ap (on_going (after_last limits search)) (batches-alone (batches size tasks) (begun start))

module _ (settings : Settings) (index : Index) where
  searched-alone : (start : Run) (o : Option Search) → searched_cached 0 settings index (without (begun start)) o ≡ without (searched settings index start o)
  searched-alone start None = refl
  searched-alone start (Some search) = reduced-alone settings.limits search settings.batch start (tasks_of index search)

  pub run-alone : (start : Run) (request : Request) → cached_run 0 settings index start [] request ≡ without (solo_run settings index start request)
  run-alone start request =
      ap (on_going (responded settings index request))
      (searched-alone (body_charged settings index start request) (running_search index settings.max_buckets request))
