-- Searches that were answered side by side, and what that makes of the caller's pass ('Multi search API'; 'Circuit breaker settings').
use Rattle.std.specs.Prelude.{◌≡◌, ◌≤◌, ℕ, ◌+◌, IsTrue, List}
use Rattle.agg_model.specs.declared.breaker.Which.TheVariants.{Request, Fielddata, Inflight, Parent}
use Rattle.agg_model.specs.declared.outcome.Answered.{Answered}
use Rattle.agg_model.specs.declared.settings.Settings.{Settings}
use Rattle.agg_spec.specs.Index.{Index}
use Rattle.agg_spec.specs.Outcome.{Request as AnyRequest}
use Rattle.agg_spec.specs.Rises.{Rises, rises}
use Rattle.agg_spec.specs.Rounds.{Round}
use Rattle.agg_spec.specs.Wave.{MayAnswerWave}
use Rattle.breaker_words.specs.Breakers.{counter_value}
use Rattle.breaker_words.specs.Views.{granted_of, hold_of, trips_of}
use Rattle.breaker_words.specs.declared.view.View.{View}

-- The totals that a pass counts at the children, and its trips, rose as is known of these rises.
pub record HasRisenBy (r : Rises) (old new : View) : Type 0 where
  pub fielddata : (granted_of new Fielddata ≡ granted_of old Fielddata) × (trips_of new Fielddata ≡ trips_of old Fielddata)
  pub inflight : (granted_of new Inflight ≡ counter_value (granted_of old Inflight + r.bodies))
      × (trips_of new Inflight ≡ counter_value (trips_of old Inflight + r.trips.inflight))
  -- what was granted at request
  pub searches : ℕ
  pub least : r.searches ≤ searches
  pub exactly : IsTrue r.exact → searches ≡ r.searches
  pub request : granted_of new Request ≡ counter_value (granted_of old Request + searches)
  -- how often request and the parent refused
  pub at_request : ℕ
  pub at_parent : ℕ
  pub request_told : r.trips.request ≤ at_request
  pub parent_told : r.trips.parent ≤ at_parent
  pub request_trips : trips_of new Request ≡ counter_value (trips_of old Request + at_request)
  pub parent_trips : trips_of new Parent ≡ counter_value (trips_of old Parent + at_parent)
  pub no_trips : IsTrue r.quiet → (at_request ≡ 0) × (at_parent ≡ 0)

abbrev pub round_of : Settings → List AnyRequest → List Answered → Round
round_of settings requests answers = record { settings = settings; requests = requests; answers = answers }

-- These answers may be the answers to these requests, and the pass, which held the columns alone, was charged for them.
pub record IsWave (settings : Settings) (index : Index) (requests : List AnyRequest) (old new : View) (answers : List Answered) : Type 0 where
  pub allowed : MayAnswerWave settings index (hold_of old Fielddata) requests answers
  pub risen : HasRisenBy (rises index (hold_of old Fielddata) (round_of settings requests answers)) old new
