-- A search with the charges of its body and of its response, by how it ends.
use Rattle.std.specs.Prelude.{◌≡◌, refl, ℕ, ◌*◌, List, Option, Some, None, Result, Ok, Err, IfOk, IfErr}
use Rattle.std.proofs.Common.{◌∙◌, sym, ap, subst, inl, inr}
use Rattle.agg_model.specs.declared.breaker.Child.TheVariants as child
use Rattle.agg_model.specs.declared.breaker.Tripped.{Tripped}
use Rattle.agg_model.specs.declared.breaker.Which.{Which}
use Rattle.agg_model.specs.declared.outcome.Answered.{Answered}
use Rattle.agg_model.specs.declared.outcome.Failure.{Failure}
use Rattle.agg_model.specs.declared.outcome.Outcome.{Outcome}
use Rattle.agg_model.specs.declared.outcome.Outcome.TheVariants as ended
use Rattle.agg_model.specs.declared.settings.Settings.{Settings}
use Rattle.agg_spec.specs.Charges.{Run, charge_of, run}
use Rattle.agg_spec.specs.Index.{Index}
use Rattle.agg_spec.specs.Outcome.{Request, running_search}
use Rattle.agg_spec.specs.Reduction.{Going, begun}
use Rattle.agg_spec.specs.Solo.{body_charged, outcome_unless, outcome_with, response_steps}
use Rattle.breaker_words.specs.Views.{granted_of, hold_of, trips_of}
use Rattle.breaker_words.specs.declared.view.View.{View}
use Rattle.cache_spec.specs.Cache.{Cached, cached_run, searched_cached}
use Rattle.cache_spec.specs.declared.shard_search.ShardSearch.{ShardSearch}
use Rattle.solo_charges.specs.Ends.{IsEnded}
use Rattle.solo_charges.specs.Standing.{Before, StandsAt}
use Rattle.agg_search.specs.Answering.{AnswersCached, IsOutcome, Searches, Solves, StopsSearching, StopsSolving}
use Rattle.agg_search.specs.Progressing.{IsStopped}
use Rattle.agg_search.specs.Stepping.{Runs, StopsRunning}
use Rattle.agg_search.specs.Stops.{IfRefused}
use Rattle.agg_search.specs.Telling.{told_as}
use Rattle.agg_search.specs.declared.paging.Found.{Found}
use Rattle.agg_search.specs.declared.stop.Stop.{Stop}
use Rattle.agg_search.specs.declared.stop.Stop.TheVariants as stop
use Rattle.agg_search.proofs.Outcomes.{responded-stays}

module _ (settings : Settings) (index : Index) (capacity : ℕ) (kept keeps : List ShardSearch) (request : Request) (failures : List Failure) where
  abbrev searched_from : Run → Cached
  searched_from r = searched_cached capacity settings index (record { going = begun r; entries = kept }) (running_search index settings.max_buckets request)

  abbrev with_body : Run → Run
  with_body r = body_charged settings index r request

  abbrev runs_body : View → View → Type 0
  runs_body v w = Runs settings.limits (charge_of child.Inflight (2 * request.bytes)) v w

  -- where the search stops behind the charge of its body
  pub stops-behind : (s : Stop) (v w u : View) → runs_body v w → IfRefused s (StopsSearching settings index capacity request w kept u keeps failures)
      → IfRefused s (StopsSolving settings index capacity request v kept u keeps failures)
  stops-behind stop.Memory v w u runs stops = tt
  stops-behind (stop.Refused t) v w u runs stops = λ before r stands.
      let c = searched_from (with_body r) in
      let is = stops before (with_body r) (runs before r stands) in
      subst (λ d. IsStopped before u d failures keeps t)
      (ap (λ g. record { going = g; entries = c.entries }) (sym (responded-stays settings index capacity kept request c.going t is.ended.refused))) is

  -- where the charge of its response is refused
  pub stops-response : (s : Stop) (v w x u : View) (o : Outcome) → runs_body v w → Searches settings index capacity request w kept x keeps failures o
      → IfRefused s (StopsRunning settings.limits (response_steps o) x u) → IfRefused s (StopsSolving settings index capacity request v kept u keeps failures)
  stops-response stop.Memory v w x u o runs searches stops = tt
  stops-response (stop.Refused t) v w x u o runs searches stops = λ before r stands.
      let c = searched_from (with_body r) in
      let is = searches before (with_body r) (runs before r stands) in
      record {
        ended = subst (λ (p : Outcome). IsEnded before u (run settings.limits c.going.run (response_steps p)) t) is.outcome_is (stops before c.going.run is.stands);
        failures_are = is.failures_are;
        entries_are = is.entries_are;
      }

  pub solves-behind : (v w x u : View) (o : Outcome) → runs_body v w → Searches settings index capacity request w kept x keeps failures o
      → Runs settings.limits (response_steps o) x u → Solves settings index capacity request v kept u keeps failures o
  solves-behind v w x u o runs searches responds before r stands =
      let c = searched_from (with_body r) in
      let is = searches before (with_body r) (runs before r stands) in
      record {
        stands = subst (λ (p : Outcome). StandsAt before u (run settings.limits c.going.run (response_steps p))) is.outcome_is (responds before c.going.run is.stands);
        failures_are = is.failures_are;
        entries_are = is.entries_are;
        outcome_is = is.outcome_is;
      }

  -- all that is held is given back
  module _ (v u w : View) (holds : (x : Which) → hold_of w x ≡ hold_of v x) (granted : (x : Which) → granted_of w x ≡ granted_of u x)
      (trips : (x : Which) → trips_of w x ≡ trips_of u x) (a : Answered) (told : a.failures ≡ failures) where
    abbrev run_from : Run → Cached
    run_from r = cached_run capacity settings index r kept request

    answer-is : (c : Cached) (o : Option Tripped) → c.going.run.refused ≡ o → c.going.failures ≡ failures
        → a.outcome ≡ outcome_unless o (outcome_with settings index request c.going)
        → a ≡ record { outcome = outcome_unless c.going.run.refused (outcome_with settings index request c.going); failures = c.going.failures }
    answer-is c o refused same is =
        let outcome' = is ∙ ap (λ q. outcome_unless q (outcome_with settings index request c.going)) (sym refused) in
        let failures' = told ∙ sym same in
        λ i. (record { outcome = outcome' i; failures = failures' i })

    pub answers-page : (end : Result Found Stop) → a.outcome ≡ told_as end → IfOk end (λ found. Solves settings index capacity request v kept u keeps failures found.outcome)
        → IfErr end (λ s. IfRefused s (StopsSolving settings index capacity request v kept u keeps failures)) → AnswersCached settings index capacity request v kept w keeps a
    answers-page (Ok found) is solves stops = inr (λ before r stands.
        let o = solves before r stands in
        record {
          answer = answer-is (run_from r) None o.stands.going o.failures_are (is ∙ o.outcome_is);
          stands = record {
            going = refl;
            holds = λ x. holds x ∙ stands.holds x;
            counts = record { granted_is = λ x. granted x ∙ o.stands.counts.granted_is x; trips_are = λ x. trips x ∙ o.stands.counts.trips_are x };
          };
          entries = sym o.entries_are;
        })
    answers-page (Err stop.Memory) is solves stops = inl is
    answers-page (Err (stop.Refused t)) is solves stops = inr (λ before r stands.
        let s = stops before r stands in
        record {
          answer = answer-is (run_from r) (Some t) s.ended.refused s.failures_are is;
          stands = record {
            going = refl;
            holds = λ x. holds x ∙ stands.holds x;
            counts = record { granted_is = λ x. granted x ∙ s.ended.counts.granted_is x; trips_are = λ x. trips x ∙ s.ended.counts.trips_are x };
          };
          entries = sym s.entries_are;
        })
