-- How the searches of a pool end, and what their run makes of the caller's pass ('Search API': `allow_partial_search_results`,
-- `batched_reduce_size`; 'Circuit breaker settings').
use Rattle.std.specs.Prelude.{◌≡◌, ◌≢◌, ◌≤◌, ◌<◌, ℕ, ◌+◌, ◌-◌, ◌*◌, Bool, true, false, ◌||◌, ◌&&◌, not, IsTrue, List, [], ◌∷◌, ◌++◌, map, flat_map, length, sum, sum_by, option_to_list, is_some, nat_lt, if◌then◌else◌, IsPermutation}
use Rattle.std.specs.List.{AllByRecursion, list_all, range_with_len}
use Rattle.agg_evaluation.specs.Ceiling.{greatest_of}
use Rattle.agg_evaluation.specs.Cost.{cost}
use Rattle.agg_model.specs.Breakers.{limit_of}
use Rattle.agg_model.specs.declared.breaker.Limits.{Limits}
use Rattle.agg_model.specs.declared.breaker.Tripped.{Tripped}
use Rattle.agg_model.specs.declared.breaker.Which.{Which}
use Rattle.agg_model.specs.declared.breaker.Which.TheVariants.{Request, Parent}
use Rattle.agg_model.specs.declared.outcome.Failure.{Failure}
use Rattle.agg_spec.specs.Failures.{AreFailures, unfailed}
use Rattle.agg_spec.specs.Outcome.{whole_of}
use Rattle.agg_spec.specs.Rises.{merge_charge}
use Rattle.batch_reduce.specs.Reduced.{at_both}
use Rattle.breaker_words.specs.Breakers.{counter_value}
use Rattle.breaker_words.specs.Passes.{IsOf, PassModel}
use Rattle.breaker_words.specs.Views.{granted_of, hold_of, most_of, trips_of}
use Rattle.breaker_words.specs.declared.trial.Trial.TheVariants.{Rest}
use Rattle.breaker_words.specs.declared.view.View.{View}
use Rattle.shard_pool.specs.Batches.{batch_count}
use Rattle.pool_results.specs.Carried.{PeakFits}
use Rattle.pool_results.specs.Passes.{is_charged}
use Rattle.pool_results.specs.Pools.{Pool, cost_at, gross_at, peak_at, search_at, shard_count}
use Rattle.pool_results.specs.Runs.{times_at}
use Rattle.shard_pool.specs.declared.search_end.SearchEnd.{SearchEnd}

-- the search has no result
abbrev pub is_stopped : SearchEnd → Bool
is_stopped e = is_some e.refused || e.memory

-- the refusals that it tells of: one that ended it, and those of the shards that are left out
abbrev pub told_in : SearchEnd → List Tripped
told_in e = option_to_list e.refused ++ map (λ (f : Failure). f.tripped) e.failures

-- nothing was refused, and there was memory
abbrev pub is_empty : {A : Type 0} → List A → Bool
is_empty [] = true
is_empty (x ∷ xs) = false

abbrev pub is_quiet : SearchEnd → Bool
is_quiet e = not (is_stopped e) && is_empty e.failures

-- A breaker that tasks charge refused: a total above its limit was wanted there, and the caller's pass had so much standing.
pub record IsTold (limits : Limits) (view : View) (t : Tripped) : Type 0 where
  pub breaker : IsTrue (is_charged t.which)
  pub limit : t.limit ≡ limit_of limits t.which
  pub above : t.limit < t.wanted
  pub most : t.wanted ≤ most_of view t.which

-- The parts are the wholes of some groups of the shards that are left, none of them empty; one for each batch where no shard is left
-- out.
pub record HasParts (p : Pool) (q size : ℕ) (e : SearchEnd) : Type 0 where
  pub groups : List (List ℕ)
  pub some : AllByRecursion (λ (g : List ℕ). 1 ≤ length g) groups
  pub parts : e.parts ≡ map (whole_of p.index (search_at p q)) groups
  pub each : IsPermutation (unfailed p.index e.failures) (flat_map (λ (g : List ℕ). g) groups)
  pub number : e.failures ≡ [] → length groups ≡ batch_count (shard_count p) size

-- how the search q may end, in batches of a size, where the caller's pass is left with the view
pub record MayEnd (p : Pool) (q size : ℕ) (view : View) (e : SearchEnd) : Type 0 where
  pub allowed : (search_at p q).partial ≡ false → e.failures ≡ []
  pub ascending : AreFailures (shard_count p) e.failures
  pub told : AllByRecursion (IsTold p.words.limits view) (told_in e)
  pub stopped : is_stopped e ≡ true → e.parts ≡ []
  pub parts : is_stopped e ≡ false → HasParts p q size e
  pub fits : is_stopped e ≡ false → AllByRecursion (PeakFits p q) (unfailed p.index e.failures)

-- a number of each task, added up over all tasks
abbrev pub over_tasks : Pool → (ℕ → ℕ → ℕ) → ℕ
over_tasks p f = sum_by (λ q. sum_by (f q) (range_with_len 0 (shard_count p))) (range_with_len 0 (length p.searches))

-- what the parts of all searches cost
abbrev pub cost_of_ends : List SearchEnd → ℕ
cost_of_ends ends = sum_by (λ (e : SearchEnd). sum_by cost e.parts) ends

abbrev pub all_told : List SearchEnd → List Tripped
all_told ends = flat_map told_in ends

abbrev pub all_quiet : List SearchEnd → Bool
all_quiet ends = list_all is_quiet ends

-- The least that the merges of batches charge: where there are more tasks than a batch has, one result may stay alone in its batch.
abbrev pub least_for_batches : ℕ → List ℕ → ℕ
least_for_batches size costs = if nat_lt size (length costs) then sum costs - greatest_of costs else merge_charge costs

abbrev pub task_costs : Pool → ℕ → List ℕ
task_costs p q = map (cost_at p q) (range_with_len 0 (shard_count p))

-- the least that all tasks and the merges of their batches are granted
abbrev pub least_granted : Pool → ℕ → ℕ
least_granted p size = over_tasks p (gross_at p) + sum_by (λ q. least_for_batches size (task_costs p q)) (range_with_len 0 (length p.searches))

-- some number of trips at a breaker: those that are told of at least, and none where all is quiet
pub record HasTripped (ends : List SearchEnd) (x : Which) (old new : ℕ) : Type 0 where
  pub more : ℕ
  pub told : times_at x (all_told ends) ≤ more
  pub none : all_quiet ends ≡ true → more ≡ 0
  pub is : new ≡ counter_value (old + more)

-- what was granted for all tasks and merges
pub record HasGranted (p : Pool) (size : ℕ) (old new : View) : Type 0 where
  pub more : ℕ
  pub least : least_granted p size ≤ more
  pub exactly : shard_count p ≤ size → more ≡ least_granted p size
  pub is : (x : Which) → granted_of new x ≡ counter_value (granted_of old x + at_both more x)

-- The caller's pass has all passes of the tasks back, and holds what the parts cost beside what it held.
pub record HasRun (p : Pool) (size : ℕ) (old new : PassModel) (ends : List SearchEnd) : Type 0 where
  pub of : IsOf p.words new
  pub rest : new.view.trial ≡ Rest
  pub total : new.view.total ≡ old.view.total
  pub whole : new.view.cap ≡ new.view.total
  pub holds : (x : Which) → hold_of new.view x ≡ hold_of old.view x + at_both (cost_of_ends ends) x
  pub most : (x : Which) → most_of new.view x ≤ most_of old.view x + at_both (2 * over_tasks p (peak_at p)) x
  pub trips : (x : Which) → HasTripped ends x (trips_of old.view x) (trips_of new.view x)
  pub granted : all_quiet ends ≡ true → HasGranted p size old.view new.view
  -- whatever ended, no granted total fell
  pub risen : (x : Which) → granted_of old.view x ≤ granted_of new.view x
  -- the other breakers' totals are as they were
  pub other_trips : (x : Which) → x ≢ Request → x ≢ Parent → trips_of new.view x ≡ trips_of old.view x
  pub other_granted : (x : Which) → x ≢ Request → x ≢ Parent → granted_of new.view x ≡ granted_of old.view x
