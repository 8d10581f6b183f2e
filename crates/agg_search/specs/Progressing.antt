-- A search that goes on as the definitions' does, or is stopped where they stop it. What was kept goes along.
use Rattle.std.specs.Prelude.{◌≡◌, List}
use Rattle.cache_spec.specs.declared.shard_search.ShardSearch.{ShardSearch}
use Rattle.agg_model.specs.declared.breaker.Tripped.{Tripped}
use Rattle.agg_model.specs.declared.outcome.Failure.{Failure}
use Rattle.cache_spec.specs.Cache.{Cached}
use Rattle.agg_spec.specs.Charges.{Run}
use Rattle.agg_spec.specs.Reduction.{Going}
use Rattle.breaker_words.specs.declared.view.View.{View}
use Rattle.solo_charges.specs.Ends.{IsEnded}
use Rattle.solo_charges.specs.Standing.{Before, StandsAt}
use Rattle.agg_search.specs.declared.progress.Progress.{Progress}

-- where the definitions are with these results
abbrev pub going_at : Run → Progress → Going
going_at r p = record { run = r; batch = p.batch; results = p.results; failures = p.failures }

-- and with these entries
abbrev pub cached_at : Run → Progress → List ShardSearch → Cached
cached_at r p entries = record { going = going_at r p; entries = entries }

-- the pass, the results and the entries are where the definitions' search is, which goes on
pub record IsAt (before : Before) (v : View) (c : Cached) (p : Progress) (entries : List ShardSearch) : Type 0 where
  pub stands : StandsAt before v c.going.run
  pub is : c ≡ cached_at c.going.run p entries

-- a breaker has ended the search with this refusal, these shards had failed before, and these entries are kept
pub record IsStopped (before : Before) (v : View) (c : Cached) (failures : List Failure) (entries : List ShardSearch) (t : Tripped) : Type 0 where
  pub ended : IsEnded before v c.going.run t
  pub failures_are : c.going.failures ≡ failures
  pub entries_are : c.entries ≡ entries

-- what `step` does to a search of the definitions, from wherever the pass stands before
abbrev pub Follows : (Cached → Cached) → View → Progress → List ShardSearch → View → Progress → List ShardSearch → Type 0
Follows step v old kept u now keeps = (before : Before) (r : Run) → StandsAt before v r → IsAt before u (step (cached_at r old kept)) now keeps

abbrev pub StopsIn : (Cached → Cached) → View → Progress → List ShardSearch → View → Progress → List ShardSearch → Tripped → Type 0
StopsIn step v old kept u now keeps t = (before : Before) (r : Run) → StandsAt before v r → IsStopped before u (step (cached_at r old kept)) now.failures keeps t
