-- What a search keeps of the end of a task ('Search API': `allow_partial_search_results`).
use Rattle.std.specs.Prelude.{◌≡◌, ℕ, Bool, true, false, [], ◌∷◌, ◌++◌, Result, Ok, Err}
use Rattle.collect_tree.specs.declared.ending.TaskEnd.{TaskEnd}
use Rattle.collect_tree.specs.declared.ending.TaskEnd.TheVariants as task
use Rattle.agg_search.specs.declared.progress.Progress.{Progress}
use Rattle.agg_search.specs.declared.stop.Stop.{Stop}
use Rattle.agg_search.specs.declared.stop.Stop.TheVariants as stop

-- a result stands in the open batch; the refused task of a shard is a failure, where the search allows partial results
abbrev pub IsKept : TaskEnd → Bool → ℕ → Progress → Result (Unit {0}) Stop → Progress → Type 0
IsKept (task.Done part) partial shard old (Ok done) now = now ≡ record old { batch = old.batch ++ part ∷ [] }
IsKept (task.Done part) partial shard old (Err s) now = s ≡ stop.Memory
IsKept (task.Refused t) true shard old (Ok done) now = now ≡ record old { failures = old.failures ++ record { shard = shard; tripped = t } ∷ [] }
IsKept (task.Refused t) true shard old (Err s) now = s ≡ stop.Memory
IsKept (task.Refused t) false shard old (Ok done) now = ⊥
IsKept (task.Refused t) false shard old (Err s) now = (s ≡ stop.Refused t) × (now ≡ old)
IsKept task.Memory partial shard old (Ok done) now = ⊥
IsKept task.Memory partial shard old (Err s) now = s ≡ stop.Memory
