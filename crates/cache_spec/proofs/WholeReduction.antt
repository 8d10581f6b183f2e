-- What is not a refusal by a breaker is the outcome of the whole reduction, whether answers were kept or not.
use Rattle.std.specs.Prelude.{◌≡◌, refl, ◌⊎◌, ℕ, List, Option, Some, None}
use Rattle.std.proofs.Common.{inl, inr}
use Rattle.agg_model.specs.declared.breaker.Tripped.{Tripped}
use Rattle.agg_model.specs.declared.outcome.Outcome.{Outcome}
use Rattle.agg_model.specs.declared.outcome.Outcome.TheVariants as ended
use Rattle.agg_model.specs.declared.settings.Settings.{Settings}
use Rattle.agg_spec.specs.Charges.{Run}
use Rattle.agg_spec.specs.Index.{Index}
use Rattle.agg_spec.specs.Outcome.{Request, outcome}
use Rattle.agg_spec.specs.Solo.{outcome_unless, outcome_with}
use Rattle.cache_spec.specs.Cache.{cached_answer, cached_run}
use Rattle.cache_spec.specs.declared.shard_search.ShardSearch.{ShardSearch}

unless : (o : Option Tripped) (whole : Outcome) → (outcome_unless o whole ≡ whole) ⊎ ((t : Tripped) × (outcome_unless o whole ≡ ended.Tripped t))
unless None whole = inl refl
unless (Some t) whole = inr (t, refl)

pub kept-answers-tell : (capacity : ℕ) (settings : Settings) (index : Index) (start : Run) (entries : List ShardSearch) (request : Request)
    → let a = cached_answer capacity settings index start entries request in
    (a.outcome ≡ outcome index settings.max_buckets request a.failures) ⊎ ((t : Tripped) × (a.outcome ≡ ended.Tripped t))
kept-answers-tell capacity settings index start entries request =
    let going = (cached_run capacity settings index start entries request).going in
    unless going.run.refused (outcome_with settings index request going)
