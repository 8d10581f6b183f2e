-- Tasks of one search: those whose shard is left out, and those whose is not ('Search API': `allow_partial_search_results`).
use Rattle.std.specs.Prelude.{ℕ, List, [], ◌∷◌, ◌++◌, map, flat_map, sum_by, option_to_list, Option, Some, None}
use Rattle.agg_model.specs.declared.breaker.Tripped.{Tripped}
use Rattle.agg_model.specs.declared.breaker.Which.{Which}
use Rattle.agg_model.specs.declared.outcome.Failure.{Failure}
use Rattle.agg_spec.specs.Charges.{amount_at, one_at}
use Rattle.pool_results.specs.declared.shard_run.ShardRun.{ShardRun}

abbrev pub shards_in : List ShardRun → List ℕ
shards_in runs = map (λ r. r.shard) runs

-- a list of one, where the shard is left out or where it is not
abbrev pub failure_by : ℕ → Option Tripped → List Failure
failure_by shard None = []
failure_by shard (Some t) = record { shard = shard; tripped = t } ∷ []

abbrev pub left_by : ℕ → Option Tripped → List ℕ
left_by shard None = shard ∷ []
left_by shard (Some t) = []

-- the shards that are left out, and those that are not
abbrev pub failures_in : List ShardRun → List Failure
failures_in runs = flat_map (λ r. failure_by r.shard r.refused) runs

abbrev pub left_in : List ShardRun → List ℕ
left_in runs = flat_map (λ r. left_by r.shard r.refused) runs

-- the refusals that are told of: one that ended the search, and those of the shards that are left out
abbrev pub told_by : Option Tripped → List ShardRun → List Tripped
told_by refused runs = option_to_list refused ++ map (λ (f : Failure). f.tripped) (failures_in runs)

-- how many refusals name the breaker
abbrev pub times_at : Which → List Tripped → ℕ
times_at x ts = sum_by (λ t. amount_at x (one_at t.which)) ts
