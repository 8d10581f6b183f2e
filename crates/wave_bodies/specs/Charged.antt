-- The charges of the bodies of searches that are answered side by side, one after another ('Multi search API'; 'Circuit breaker
-- settings', inflight requests).
use Rattle.std.specs.Prelude.{◌≡◌, ℕ, ◌+◌, List, map, sum, zip, Option, Some, None}
use Rattle.agg_model.specs.declared.breaker.Tripped.{Tripped}
use Rattle.agg_model.specs.declared.breaker.Which.{Which}
use Rattle.agg_model.specs.declared.breaker.Which.TheVariants.{Request, Fielddata, Inflight}
use Rattle.agg_model.specs.declared.settings.Settings.{Settings}
use Rattle.agg_spec.specs.Charges.{Amounts, amount_at, no_amounts, one_at}
use Rattle.agg_spec.specs.Index.{Index}
use Rattle.agg_spec.specs.Outcome.{Request as AnyRequest}
use Rattle.agg_spec.specs.Rises.{sum_of_amounts}
use Rattle.agg_spec.specs.Wave.{body_charge, body_refusals}
use Rattle.breaker_words.specs.Breakers.{counter_value}
use Rattle.breaker_words.specs.Views.{granted_of, hold_of, trips_of}
use Rattle.breaker_words.specs.declared.view.View.{View}

abbrev pub trip_of : Option Tripped → Amounts
trip_of None = no_amounts
trip_of (Some t) = one_at t.which

abbrev pub trips_in : List (Option Tripped) → Amounts
trips_in refusals = sum_of_amounts (map trip_of refusals)

-- the bytes that are charged for these bodies
abbrev pub charged_for : Settings → Index → ℕ → List (Option Tripped) → List AnyRequest → ℕ
charged_for settings index columns refusals requests = sum (map (λ p. body_charge settings index columns p.0 p.1) (zip refusals requests))

-- The bodies of these requests were charged by a pass that held the columns alone: what the pass was before, and what it is.
pub record AreCharged (settings : Settings) (index : Index) (requests : List AnyRequest) (old new : View) (refusals : List (Option Tripped)) : Type 0 where
  pub refusals_are : refusals ≡ body_refusals settings index (hold_of old Fielddata) 0 requests
  pub held : hold_of new Inflight ≡ charged_for settings index (hold_of old Fielddata) refusals requests
  pub granted : granted_of new Inflight ≡ counter_value (granted_of old Inflight + charged_for settings index (hold_of old Fielddata) refusals requests)
  pub granted_request : granted_of new Request ≡ granted_of old Request
  pub granted_fielddata : granted_of new Fielddata ≡ granted_of old Fielddata
  pub trips : (x : Which) → trips_of new x ≡ counter_value (trips_of old x + amount_at x (trips_in refusals))
