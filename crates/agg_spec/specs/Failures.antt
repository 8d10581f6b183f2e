-- The shards that a search leaves out, where it allows partial results ('Search API': `allow_partial_search_results`, `_shards`).
use Rattle.std.specs.Prelude.{ℕ, ◌≤◌, ◌<◌, ◌+◌, ◌==◌, ⊤, not, Bool, List, [], ◌∷◌, filter, Option, Some, None}
use Rattle.std.specs.List.{list_any}
use Rattle.agg_model.specs.declared.breaker.Tripped.{Tripped}
use Rattle.agg_model.specs.declared.outcome.Failure.{Failure}
use Rattle.agg_spec.specs.Index.{Index, shard_numbers}

abbrev pub has_failed : List Failure → ℕ → Bool
has_failed failures shard = list_any (λ f. f.shard == shard) failures

-- the numbers of the shards that no failure names
abbrev pub unfailed : Index → List Failure → List ℕ
unfailed index failures = filter (λ shard. not (has_failed failures shard)) (shard_numbers index)

-- where no shard is left, the refusal of the first failure
abbrev pub total_failure : List Failure → List ℕ → Option Tripped
total_failure (f ∷ rest) [] = Some f.tripped
total_failure _ _ = None

-- The failures stand by ascending shard: the first is at least `least`, and all lie below the number of shards.
abbrev pub AreAscending : ℕ → ℕ → List Failure → Type 0
AreAscending least shards [] = ⊤
AreAscending least shards (f ∷ rest) = (least ≤ f.shard) × (f.shard < shards) × AreAscending (f.shard + 1) shards rest

abbrev pub AreFailures : ℕ → List Failure → Type 0
AreFailures shards failures = AreAscending 0 shards failures
