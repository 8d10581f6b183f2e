-- What the end of a search makes of the caller's pass ('Circuit breaker settings').
use Rattle.std.specs.Prelude.{◌≡◌, ℕ, ◌+◌}
use Rattle.agg_model.specs.declared.breaker.Which.{Which}
use Rattle.agg_model.specs.declared.breaker.Which.TheVariants.{Request, Fielddata, Inflight}
use Rattle.agg_spec.specs.Charges.{Amounts, amount_at}
use Rattle.breaker_words.specs.Breakers.{counter_value}
use Rattle.breaker_words.specs.Views.{granted_of, trips_of}
use Rattle.breaker_words.specs.declared.view.View.{View}

-- So much more was granted at request, so many more charges were refused, and nothing was granted at the other children.
pub record HasRisen (granted : ℕ) (trips : Amounts) (old new : View) : Type 0 where
  pub request : granted_of new Request ≡ counter_value (granted_of old Request + granted)
  pub fielddata : granted_of new Fielddata ≡ granted_of old Fielddata
  pub inflight : granted_of new Inflight ≡ granted_of old Inflight
  pub trips_are : (x : Which) → trips_of new x ≡ counter_value (trips_of old x + amount_at x trips)
