-- The pages of a scan as its rounds ask them ('Composite aggregation', pagination).
use Rattle.std.specs.Prelude.{◌≡◌, ℕ, List, [], ◌∷◌, flat_map, Ok, Err}
use Rattle.agg_model.specs.declared.aggregation.Search.{Search}
use Rattle.agg_model.specs.declared.outcome.Outcome.TheVariants.{Response}
use Rattle.agg_spec.specs.Outcome.{Request}
use Rattle.agg_spec.specs.Rounds.{Round}

-- the search of a request, where its body is good
abbrev pub asked : Request → List Search
asked request = elim request.search [ Ok search ↦ search ∷ [] | Err refused ↦ [] ]

-- the searches of these rounds
abbrev pub searches_of : List Round → List Search
searches_of = flat_map (λ round. flat_map asked round.requests)

-- the one answer of the round is a response, for which no shard failed
pub record IsAnsweredByAll (round : Round) : Type 0 where
  pub line : List ℕ
  pub answers : round.answers ≡ record { outcome = Response line; failures = [] } ∷ []
