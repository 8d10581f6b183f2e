-- What one charge at request comes to ('Circuit breaker settings': the request and the parent circuit breaker).
use Rattle.std.specs.Prelude.{◌≡◌, ◌⊎◌, ◌≤◌, ◌<◌, ℕ, ◌+◌}
use Rattle.agg_model.specs.Breakers.{limit_of}
use Rattle.agg_model.specs.declared.breaker.Limits.{Limits}
use Rattle.agg_model.specs.declared.breaker.Tripped.{Tripped}
use Rattle.agg_model.specs.declared.breaker.Which.TheVariants.{Request, Fielddata, Inflight, Parent}
use Rattle.agg_spec.specs.Charges.{one_at}
use Rattle.breaker_words.specs.Views.{hold_of}
use Rattle.breaker_words.specs.declared.view.View.{View}
use Rattle.wave_answers.specs.Rising.{HasRisen}

-- so many bytes had room beside all that was held
pub record HasPlace (limits : Limits) (v : View) (bytes : ℕ) : Type 0 where
  pub at_request : hold_of v Request + bytes ≤ limits.request
  pub at_parent : hold_of v Request + hold_of v Fielddata + hold_of v Inflight + bytes ≤ limits.parent

-- A breaker refused a charge of at most so many bytes beside what was held, once so much was granted.
pub record IsRefusedCharge (limits : Limits) (v : View) (bytes granted : ℕ) (t : Tripped) (u : View) : Type 0 where
  pub breaker : (t.which ≡ Request) ⊎ (t.which ≡ Parent)
  pub limit : t.limit ≡ limit_of limits t.which
  pub above : t.limit < t.wanted
  pub within : t.wanted ≤ hold_of v t.which + bytes
  pub risen : HasRisen granted (one_at t.which) v u
