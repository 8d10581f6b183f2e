-- What the results of a search are once the tasks of its first shards have ended.
use Rattle.std.specs.Prelude.{◌≡◌, ◌≤◌, ℕ, ◌+◌, not, List, ◌++◌, filter, flat_map, length, map, sum_by}
use Rattle.std.specs.List.{AllByRecursion, range_with_len}
use Rattle.agg_evaluation.specs.Cost.{cost}
use Rattle.agg_model.specs.declared.aggregation.Search.{Search}
use Rattle.agg_model.specs.declared.breaker.Which.TheVariants.{Request}
use Rattle.agg_spec.specs.Failures.{AreFailures, has_failed}
use Rattle.agg_spec.specs.Index.{Index}
use Rattle.agg_spec.specs.Outcome.{shard_answers, whole_of}
use Rattle.breaker_words.specs.Views.{hold_of}
use Rattle.breaker_words.specs.declared.view.View.{View}
use Rattle.agg_search.specs.declared.progress.Progress.{Progress}

-- Of the shards before `done` those that did not fail stand in groups, one for each batch that is merged, and the rest in the
-- batch that is open.
pub record HasReached (index : Index) (search : Search) (done : ℕ) (p : Progress) : Type 0 where
  pub groups : List (List ℕ)
  pub waiting : List ℕ
  pub some_each : AllByRecursion (λ group. 1 ≤ length group) groups
  pub results_are : p.results ≡ map (whole_of index search) groups
  pub batch_is : p.batch ≡ shard_answers index search waiting
  pub left : flat_map (λ group. group) groups ++ waiting ≡ filter (λ shard. not (has_failed p.failures shard)) (range_with_len 0 done)
  pub failures_are : AreFailures done p.failures

-- at request the pass holds what the results cost, and nothing else
abbrev pub HoldsCosts : Progress → View → Type 0
HoldsCosts p v = hold_of v Request ≡ sum_by cost p.batch + sum_by cost p.results
