-- What the bodies of searches that are answered side by side ask for ('Multi search API').
use Rattle.std.specs.Prelude.{◌≡◌, ⊤, ℕ, List, [], ◌∷◌, Option, Some, None, Ok}
use Rattle.agg_model.specs.declared.aggregation.Search.{Search}
use Rattle.agg_model.specs.declared.breaker.Tripped.{Tripped}
use Rattle.agg_model.specs.declared.outcome.Failure.{Failure}
use Rattle.agg_model.specs.declared.outcome.Outcome.TheVariants as ended
use Rattle.agg_model.specs.declared.outcome.Refused.{Refused}
use Rattle.agg_search.specs.Paging.{request_at}
use Rattle.agg_spec.specs.Failures.{unfailed}
use Rattle.agg_spec.specs.Index.{Index}
use Rattle.agg_spec.specs.Outcome.{Request, outcome, outcome_of_shards, running_search}
use Rattle.wave_bodies.specs.declared.asked.Asked.{Asked}
use Rattle.wave_bodies.specs.declared.asked.Asked.TheVariants as asks

-- the requests of these bodies, of which the first was read before where a page is given
abbrev pub requests_from : Index → Option Search → List (List ℕ) → List Request
requests_from index page [] = []
requests_from index page (body ∷ bodies) = request_at index body page ∷ requests_from index None bodies

-- the request is refused whatever the settings are, and no task runs for it
pub record IsRefusedAs (index : Index) (request : Request) (refused : Refused) : Type 0 where
  pub outcome_is : (max : ℕ) (failures : List Failure) → outcome index max request failures ≡ ended.Refused refused
  pub none : (max : ℕ) → running_search index max request ≡ None

-- tasks run for the request, whatever the settings are
pub record IsRunAs (index : Index) (request : Request) (search : Search) : Type 0 where
  pub search_is : request.search ≡ Ok search
  pub runs : (max : ℕ) → running_search index max request ≡ Some search
  pub outcome_is : (max : ℕ) (failures : List Failure) → outcome index max request failures ≡ outcome_of_shards index max search failures (unfailed index failures)

-- what each request asks for, given the refusals of their bodies, and the searches that run, in the same order
abbrev pub AreAsked : Index → List Request → List (Option Tripped) → List Asked → List Search → Type 0
AreAsked index [] [] [] [] = ⊤
AreAsked index (r ∷ rs) (Some t ∷ ts) (asks.Tripped u ∷ more) searches = (u ≡ t) × AreAsked index rs ts more searches
AreAsked index (r ∷ rs) (None ∷ ts) (asks.Refused refused ∷ more) searches = IsRefusedAs index r refused × AreAsked index rs ts more searches
AreAsked index (r ∷ rs) (None ∷ ts) (asks.Runs ∷ more) (search ∷ searches) = IsRunAs index r search × AreAsked index rs ts more searches
AreAsked _ _ _ _ _ = ⊥
