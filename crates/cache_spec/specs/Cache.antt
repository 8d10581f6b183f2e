-- One worker that runs one search at a time with a shard request cache: what a shard answered to a search is kept, and is charged
-- at once where it is asked for again ('Shard request cache': least recently used entries go first).
use Rattle.std.specs.Prelude.{ℕ, pos, ◌==◌, ◌&&◌, not, Bool, true, false, List, [], ◌∷◌, filter, fold, take, Option, Some, None}
use Rattle.std.specs.List.{list_any}
use Rattle.agg_model.specs.declared.breaker.Limits.{Limits}
use Rattle.agg_model.specs.declared.breaker.Tripped.{Tripped}
use Rattle.agg_model.specs.declared.aggregation.Search.{Search}
use Rattle.cache_spec.specs.declared.shard_search.ShardSearch.{ShardSearch}
use Rattle.agg_model.specs.declared.outcome.Answered.{Answered}
use Rattle.agg_model.specs.declared.settings.Settings.{Settings}
use Rattle.agg_evaluation.specs.Cost.{cost}
use Rattle.agg_spec.specs.Charges.{Run, run}
use Rattle.agg_spec.specs.Index.{Index}
use Rattle.agg_spec.specs.Outcome.{Request, running_search}
use Rattle.agg_spec.specs.Reduction.{Going, Task, after_batch, after_last, after_task, batches, begun, task_steps, tasks_of}
use Rattle.agg_spec.specs.Solo.{body_charged, outcome_unless, outcome_with, responded}
use Rattle.search_equality.specs.Equality.{equal_searches}

-- the entry of a search on a shard, which does not depend on how long the body is
abbrev pub entry_of : Search → ℕ → ShardSearch
entry_of search shard = record { shard = shard; search = record search { body_bytes = 0 } }

-- A search in the middle of its tasks, and the entries, the most recently used first.
pub record Cached : Type 0 where
  pub going : Going
  pub entries : List ShardSearch

-- all that a request holds is given back
abbrev pub given_back : Run → Run → Run
given_back start after = record after { holds = start.holds; refused = None }

-- what is answered where the search came to this
abbrev pub answer_at : Settings → Index → Request → Going → Answered
answer_at settings index request going =
    record { outcome = outcome_unless going.run.refused (outcome_with settings index request going); failures = going.failures }

-- a step that uses no entry
abbrev pub on_going : (Going → Going) → Cached → Cached
on_going step c = record c { going = step c.going }

-- a refused charge that ended the search is the last thing
abbrev pub unless_stopped : Option Tripped → Cached → Cached → Cached
unless_stopped None next c = next
unless_stopped (Some t) next c = c

-- an answer that is kept charges its cost at once
abbrev pub as_kept : Bool → Task → Task
as_kept true task = record task { amounts = pos (cost task.answer) ∷ [] }
as_kept false task = task

-- the same shard, and an equal search
abbrev pub is_entry : ShardSearch → ShardSearch → Bool
is_entry e f = (e.shard == f.shard) && equal_searches e.search f.search

abbrev pub is_kept : ShardSearch → List ShardSearch → Bool
is_kept e entries = list_any (is_entry e) entries

-- an entry that is used comes to the front
abbrev pub used : ShardSearch → List ShardSearch → List ShardSearch
used e entries = e ∷ filter (λ f. not (is_entry e f)) entries

-- a run keeps at most so many answers
module _ (capacity : ℕ) where
  -- a new entry stands in front, and the last one goes where there are too many
  abbrev pub added : ShardSearch → List ShardSearch → List ShardSearch
  added e entries = take capacity (e ∷ entries)

  -- a task that a breaker refused adds no entry
  abbrev pub added_unless : Option Tripped → ShardSearch → List ShardSearch → List ShardSearch
  added_unless None e entries = added e entries
  added_unless (Some t) e entries = entries

  abbrev pub entries_after : Bool → Option Tripped → ShardSearch → List ShardSearch → List ShardSearch
  entries_after true refused e entries = used e entries
  entries_after false refused e entries = added_unless refused e entries

  module _ (limits : Limits) (search : Search) where
    abbrev pub after_kept_task : Bool → Cached → Task → Cached
    after_kept_task kept c task =
        let asked = as_kept kept task in
        (record {
          going = after_task limits search c.going asked;
          entries = entries_after kept (run limits c.going.run (task_steps asked)).refused (entry_of search task.shard) c.entries;
        })

    abbrev pub after_cached_task : Cached → Task → Cached
    after_cached_task c task =
        unless_stopped c.going.run.refused (after_kept_task (is_kept (entry_of search task.shard) c.entries) c task) c

    abbrev pub after_cached_tasks : Cached → List Task → Cached
    after_cached_tasks c tasks = fold after_cached_task c tasks

    abbrev pub after_cached_batches : Cached → List (List Task) → Cached
    after_cached_batches c parts = fold (λ d tasks. on_going (after_batch limits search) (after_cached_tasks d tasks)) c parts

    -- all tasks in batches of the size, and all merges
    abbrev pub reduced_cached : ℕ → Cached → List Task → Cached
    reduced_cached size c tasks = on_going (after_last limits search) (after_cached_batches c (batches size tasks))

  module _ (settings : Settings) (index : Index) where
    abbrev pub searched_cached : Cached → Option Search → Cached
    searched_cached c None = c
    searched_cached c (Some search) = reduced_cached settings.limits search settings.batch c (tasks_of index search)

    -- a request with all its charges, up to the refused one that ends it
    abbrev pub cached_run : Run → List ShardSearch → Request → Cached
    cached_run start entries request =
        let read : Cached = record { going = begun (body_charged settings index start request); entries = entries } in
        on_going (responded settings index request) (searched_cached read (running_search index settings.max_buckets request))

    abbrev pub cached_answer : Run → List ShardSearch → Request → Answered
    cached_answer start entries request = answer_at settings index request (cached_run start entries request).going
