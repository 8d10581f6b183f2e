-- How a request may be answered for which no task runs: its body was refused, or it is no search that runs.
use Rattle.std.specs.Prelude.{◌≡◌, refl, ◌≤◌, ℕ, All, List, [], Some, None}
use Rattle.std.proofs.Common.{inl, sym, ap, subst, ◌∙◌}
use Rattle.std.proofs.lemmas.List.Elements.{All-nil}
use Rattle.agg_model.specs.declared.breaker.Tripped.{Tripped}
use Rattle.agg_model.specs.declared.outcome.Answered.{Answered}
use Rattle.agg_model.specs.declared.outcome.Outcome.TheVariants as ended
use Rattle.agg_model.specs.declared.outcome.Refused.{Refused}
use Rattle.agg_model.specs.declared.settings.Settings.{Settings}
use Rattle.agg_spec.specs.Index.{Index}
use Rattle.agg_spec.specs.Outcome.{Request as AnyRequest}
use Rattle.agg_spec.specs.Wave.{MayAnswer, PeaksFit, task_peaks}
use Rattle.wave_bodies.specs.Asking.{IsRefusedAs}

module _ (settings : Settings) (index : Index) (columns ceiling : ℕ) (r : AnyRequest) where
  abbrev tripped_answer : Tripped → Answered
  tripped_answer t = record { outcome = ended.Tripped t; failures = [] }

  abbrev refused_answer : Refused → Answered
  refused_answer x = record { outcome = ended.Refused x; failures = [] }

  pub tripped-allowed : (t u : Tripped) (a : Answered) → u ≡ t → a ≡ record { outcome = ended.Tripped u; failures = [] } → MayAnswer settings index columns ceiling r (Some t) a
  tripped-allowed t u a same is = subst (MayAnswer settings index columns ceiling r (Some t)) (sym (is ∙ ap tripped_answer same)) (tt, inl refl)

  no-task : (x : Refused) (shards : List ℕ) → IsRefusedAs index r x → PeaksFit settings index columns r shards
  no-task x shards refused = record {
    at_request = subst (λ o. All (λ p. p ≤ settings.limits.request) (task_peaks index o shards)) (sym (refused.none settings.max_buckets)) (All-nil (λ p. p ≤ settings.limits.request));
    at_parent = subst (λ o. All (λ p. p ≤ settings.limits.parent) (task_peaks index o shards)) (sym (refused.none settings.max_buckets)) (All-nil (λ p. p ≤ settings.limits.parent));
  }

  pub refused-allowed : (x : Refused) (a : Answered) → IsRefusedAs index r x → a ≡ record { outcome = ended.Refused x; failures = [] } → MayAnswer settings index columns ceiling r None a
  refused-allowed x a refused is =
      subst (MayAnswer settings index columns ceiling r None) (sym is) (tt, (sym (refused.outcome_is settings.max_buckets []), no-task x _ refused))
