-- What becomes of a task by its end ('Search API': `allow_partial_search_results`).
use Rattle.std.specs.Prelude.{ℕ, Bool, true, false, [], ◌∷◌, Option, Some, None}
use Rattle.agg_model.specs.declared.breaker.Tripped.{Tripped}
use Rattle.agg_model.specs.declared.partial.Partial.{Partial}
use Rattle.collect_tree.specs.declared.ending.TaskEnd.{TaskEnd}
use Rattle.collect_tree.specs.declared.ending.TaskEnd.TheVariants.{Done, Refused, Memory}
use Rattle.pool_results.specs.declared.work.Work.{Work}

-- of the task of the search q on the shard s: whether the shard is left out, its part, the refusal that ends the search, and want
-- of memory
abbrev pub ran : ℕ → ℕ → Option Tripped → Option Partial → Option Tripped → Bool → Work
ran q s left_out part refused memory = record {
  search = q;
  runs = record { shard = s; refused = left_out } ∷ [];
  part = part;
  refused = refused;
  memory = memory;
  skipped = false;
}

-- the third says whether the search allows partial results
abbrev pub work_after : ℕ → ℕ → Bool → TaskEnd → Work
work_after q s partial (Done part) = ran q s None (Some part) None false
work_after q s true (Refused t) = ran q s (Some t) None None false
work_after q s false (Refused t) = ran q s None None (Some t) false
work_after q s partial Memory = ran q s None None None true
