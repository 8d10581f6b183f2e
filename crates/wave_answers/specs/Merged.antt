-- The whole of the results of a search's batches ('Search multiple data streams and indices', partial reductions).
use Rattle.std.specs.Prelude.{◌≡◌, ◌≤◌, ℕ, ◌+◌, List, [], ◌∷◌, map, length, flat_map, IsPermutation, Option, Some, None}
use Rattle.std.specs.List.{AllByRecursion}
use Rattle.agg_evaluation.specs.Whole.{whole}
use Rattle.agg_model.specs.declared.aggregation.Search.{Search}
use Rattle.agg_model.specs.declared.breaker.Limits.{Limits}
use Rattle.agg_model.specs.declared.breaker.Which.TheVariants.{Fielddata, Inflight}
use Rattle.agg_model.specs.declared.partial.Partial.{Partial}
use Rattle.agg_spec.specs.Index.{Index}
use Rattle.agg_spec.specs.Outcome.{whole_of}
use Rattle.breaker_words.specs.Views.{hold_of}
use Rattle.breaker_words.specs.declared.view.View.{View}

-- the parts are the wholes of some groups of these shards, none of them empty
pub record AreWholes (index : Index) (search : Search) (left : List ℕ) (parts : List Partial) : Type 0 where
  pub groups : List (List ℕ)
  pub some : AllByRecursion (λ (g : List ℕ). 1 ≤ length g) groups
  pub parts_are : parts ≡ map (whole_of index search) groups
  pub each : IsPermutation left (flat_map (λ (g : List ℕ). g) groups)

-- the whole of some parts; none where there is no part
abbrev pub whole_of_parts : Search → List Partial → Option Partial
whole_of_parts search [] = None
whole_of_parts search (p ∷ parts) = Some (whole search (p ∷ parts))

-- beside what was held at the other children, a result that costs so much and so many bytes had room
pub record HasPlaceBeside (limits : Limits) (v : View) (result bytes : ℕ) : Type 0 where
  pub at_request : result + bytes ≤ limits.request
  pub at_parent : hold_of v Fielddata + hold_of v Inflight + result + bytes ≤ limits.parent
