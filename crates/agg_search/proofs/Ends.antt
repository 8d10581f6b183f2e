-- What a search comes to, for the request that it was read from.
use Rattle.std.specs.Prelude.{◌≡◌, ℕ, ◌*◌, List, [], Result, Ok, Err, IfOk, IfErr}
use Rattle.std.proofs.Common.{subst}
use Rattle.agg_model.specs.declared.aggregation.Search.{Search}
use Rattle.cache_spec.specs.declared.shard_search.ShardSearch.{ShardSearch}
use Rattle.agg_model.specs.declared.breaker.Child.TheVariants as child
use Rattle.agg_model.specs.declared.breaker.Limits.{Limits}
use Rattle.agg_model.specs.declared.outcome.Failure.{Failure}
use Rattle.agg_model.specs.declared.settings.Settings.{Settings}
use Rattle.agg_spec.specs.Charges.{charge_of}
use Rattle.agg_spec.specs.Index.{Index}
use Rattle.agg_spec.specs.Outcome.{Request}
use Rattle.breaker_words.specs.declared.view.View.{View}
use Rattle.agg_search.specs.Answering.{StopsSearching, StopsSolving}
use Rattle.agg_search.specs.Stepping.{StopsRunning}
use Rattle.agg_search.specs.Stops.{IfRefused}
use Rattle.agg_search.specs.declared.paging.Found.{Found}
use Rattle.agg_search.specs.declared.stop.Stop.{Stop}
use Rattle.agg_search.specs.declared.stop.Stop.TheVariants as stop
use Rattle.agg_search.proofs.Outcomes.{body-stops}

-- what is found, whatever it says of a request with this search
pub found-at : (P : Request → Found → Type 0) (search : Search) (request : Request) → request.search ≡ Ok search → (res : Result Found Stop)
    → IfOk res (λ found. (r : Request) → r.search ≡ Ok search → P r found) → IfOk res (P request)
found-at P search request is (Ok found) told = told request is
found-at P search request is (Err s) told = tt

module _ (settings : Settings) (index : Index) (capacity : ℕ) (v : View) (kept : List ShardSearch) (u : View) (keeps : List ShardSearch) (failures : List Failure) (search : Search) (request : Request) (is : request.search ≡ Ok search) where
  pub stops-at : (res : Result Found Stop) → IfErr res (λ s. IfRefused s (λ t. (request : Request) → request.search ≡ Ok search → StopsSearching settings index capacity request v kept u keeps failures t))
      → IfErr res (λ s. IfRefused s (StopsSearching settings index capacity request v kept u keeps failures))
  stops-at (Ok o) told = tt
  stops-at (Err stop.Memory) told = tt
  stops-at (Err (stop.Refused t)) told = told request is

-- a body that is refused stops the search
pub body-stops-if : (settings : Settings) (index : Index) (capacity : ℕ) (kept : List ShardSearch) (request : Request) (limits : Limits) → limits ≡ settings.limits → (v u : View) (failures : List Failure) (s : Stop) → failures ≡ []
    → IfRefused s (StopsRunning limits (charge_of child.Inflight (2 * request.bytes)) v u) → IfRefused s (StopsSolving settings index capacity request v kept u kept failures)
body-stops-if settings index capacity kept request limits same v u failures stop.Memory empty stops = tt
body-stops-if settings index capacity kept request limits same v u failures (stop.Refused t) empty stops =
    body-stops settings index capacity kept request v u failures t empty (subst (λ k. StopsRunning k (charge_of child.Inflight (2 * request.bytes)) v u t) same stops)
