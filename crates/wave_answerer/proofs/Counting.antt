-- One round more, as a pass counts it.
use Rattle.std.specs.Prelude.{◌≡◌, ℕ, ◌+◌, IsTrue, List, [], ◌∷◌, ◌++◌}
use Rattle.std.proofs.Common.{refl, ◌∙◌, ap, arith}
use Rattle.agg_model.specs.declared.breaker.Which.{Which}
use Rattle.agg_model.specs.declared.breaker.Which.TheVariants as at
use Rattle.agg_spec.specs.Charges.{Amounts, amount_at, amounts_sum, no_amounts}
use Rattle.agg_spec.specs.Index.{Index}
use Rattle.agg_spec.specs.Rises.{Rises, RoseBy, rises}
use Rattle.agg_spec.specs.Rounds.{Round}
use Rattle.breaker_words.specs.Breakers.{counter_value}
use Rattle.breaker_words.specs.Views.{granted_of, trips_of}
use Rattle.breaker_words.specs.declared.view.View.{View}
use Rattle.script_answers.proofs.Completing.{quiet-answers}
use Rattle.wave_answerer.specs.Worked.{HasCounted}
use Rattle.wave_answerer.proofs.Rises.{rose-more}
use Rattle.search_wave.specs.Waves.{HasRisenBy}

-- a counter that stops, counted on
counted-on : (old new a more : ℕ) → old ≡ counter_value a → new ≡ counter_value (old + more) → new ≡ counter_value (a + more)
counted-on old new a more was is = omega (arith, was, is)

counted-still : (old new a : ℕ) → old ≡ counter_value a → new ≡ old → new ≡ counter_value (a + 0)
counted-still old new a was is = is ∙ was ∙ ap counter_value (omega arith)

amounts-are : (a b c : ℕ) → a ≡ 0 → b ≡ 0 → c ≡ 0 → ◌≡◌ {A = Amounts} (record { request = a; fielddata = 0; inflight = b; parent = c }) no_amounts
amounts-are a b c first second third =
    ap (λ n. record { request = n; fielddata = 0; inflight = b; parent = c }) first
    ∙ ap (λ n. record { request = 0; fielddata = 0; inflight = n; parent = c }) second
    ∙ ap (λ n. record { request = 0; fielddata = 0; inflight = 0; parent = n }) third

module _ (r : Rises) (old new : View) (risen : HasRisenBy r old new) where
  abbrev pub granted_more : Amounts
  granted_more = record { request = risen.searches; fielddata = 0; inflight = r.bodies; parent = risen.searches + r.bodies }

  abbrev pub trips_more : Amounts
  trips_more = record { request = risen.at_request; fielddata = 0; inflight = r.trips.inflight; parent = risen.at_parent }

  rose-so : (IsTrue r.quiet → r.trips ≡ no_amounts) → RoseBy r granted_more trips_more
  rose-so quiet = record {
    fielddata = (refl, refl);
    inflight = (refl, refl);
    searches = risen.least;
    exactly = risen.exactly;
    parent = refl;
    request_trips = risen.request_told;
    parent_trips = risen.parent_told;
    no_trips = λ is.
        let none = risen.no_trips is in
        amounts-are risen.at_request r.trips.inflight risen.at_parent none.0 (ap (λ (a : Amounts). a.inflight) (quiet is)) none.1;
  }

module _ (index : Index) (columns : ℕ) (old new : View) (rounds : List Round) (round : Round) (was : HasCounted index columns old rounds)
    (risen : HasRisenBy (rises index columns round) old new) where
  abbrev r : Rises
  r = rises index columns round

  trips-counted : (x : Which) → trips_of new x ≡ counter_value (amount_at x (amounts_sum was.trips (trips_more r old new risen)))
  trips-counted at.Request = counted-on (trips_of old at.Request) (trips_of new at.Request) was.trips.request risen.at_request (was.trips_are at.Request) risen.request_trips
  trips-counted at.Fielddata = counted-still (trips_of old at.Fielddata) (trips_of new at.Fielddata) was.trips.fielddata (was.trips_are at.Fielddata) risen.fielddata.1
  trips-counted at.Inflight = counted-on (trips_of old at.Inflight) (trips_of new at.Inflight) was.trips.inflight r.trips.inflight (was.trips_are at.Inflight) risen.inflight.1
  trips-counted at.Parent = counted-on (trips_of old at.Parent) (trips_of new at.Parent) was.trips.parent risen.at_parent (was.trips_are at.Parent) risen.parent_trips

  -- a pass counts one round more
  pub counts-more : HasCounted index columns new (rounds ++ round ∷ [])
  counts-more = record {
    granted = amounts_sum was.granted (granted_more r old new risen);
    trips = amounts_sum was.trips (trips_more r old new risen);
    rose = rose-more index columns rounds round was.granted was.trips (granted_more r old new risen) (trips_more r old new risen) was.rose
        (rose-so r old new risen (quiet-answers index columns round.answers));
    at_request = counted-on (granted_of old at.Request) (granted_of new at.Request) was.granted.request risen.searches was.at_request risen.request;
    at_fielddata = risen.fielddata.0 ∙ was.at_fielddata;
    at_inflight = counted-on (granted_of old at.Inflight) (granted_of new at.Inflight) was.granted.inflight r.bodies was.at_inflight risen.inflight.0;
    trips_are = trips-counted;
  }
