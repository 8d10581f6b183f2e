-- Breakers that are opened anew with other limits, where the columns alone are held.
-- Elasticsearch Reference 8, 'Circuit breaker settings', 'Cluster update settings API'.
use Rattle.std.specs.Prelude.{◌≡◌, ℕ, Option, Some, None, if◌then◌else◌, nat_lt}
use Rattle.agg_model.specs.declared.breaker.Limits.{Limits}
use Rattle.agg_model.specs.declared.breaker.Which.{Which}
use Rattle.agg_model.specs.declared.breaker.Which.TheVariants.{Fielddata, Parent}
use Rattle.agg_model.specs.declared.breaker.Tripped.{Tripped}
use Rattle.breaker_words.specs.declared.trial.Trial.TheVariants.{Rest}
use Rattle.breaker_words.specs.Passes.{WordsModel, PassModel, IsOf}
use Rattle.breaker_words.specs.Views.{hold_of, granted_of, trips_of}
use Rattle.breaker_tree.specs.Charge.{refusal}
use Rattle.breaker_tree.specs.declared.reopening.Reopened.{Reopened}
use Rattle.breaker_tree.specs.declared.reopening.Reopened.TheVariants.{Done, Refused, Memory}

-- an amount of the columns, at fielddata and at the parent
abbrev pub columns_at : ℕ → Which → ℕ
columns_at held Fielddata = held
columns_at held Parent = held
columns_at held _ = 0

-- The one pass to words with these limits, at rest with the whole cap. It was granted the columns, which it holds, and nothing else.
pub record HoldsColumns (limits : Limits) (held : ℕ) (words : WordsModel) (pass : PassModel) : Type 0 where
  pub of : IsOf words pass
  pub limits_are : words.limits ≡ limits
  pub whole : pass.view.cap ≡ pass.view.total
  pub rest : pass.view.trial ≡ Rest
  pub holds : (x : Which) → hold_of pass.view x ≡ columns_at held x
  pub granted : (x : Which) → granted_of pass.view x ≡ columns_at held x
  pub trips : (x : Which) → trips_of pass.view x ≡ 0

abbrev pub refused_at : Limits → Which → ℕ → ℕ → Option Tripped → Option Tripped
refused_at limits which held limit later = if nat_lt limit held then Some (refusal limits which held) else later

-- the breaker that has no room for the columns, fielddata before the parent
abbrev pub refusal_of_columns : Limits → ℕ → Option Tripped
refusal_of_columns limits held = refused_at limits Fielddata held limits.fielddata (refused_at limits Parent held limits.parent None)

-- Breakers with the new limits hold the columns, unless these have no room; else the old ones are as they were.
abbrev pub Reopens : WordsModel → PassModel → Limits → ℕ → Reopened → Type 0
Reopens words pass limits held (Done now by) = (refusal_of_columns limits held ≡ None) × HoldsColumns limits held now by
Reopens words pass limits held (Refused t now by) = (refusal_of_columns limits held ≡ Some t) × (now ≡ words) × (by ≡ pass)
Reopens words pass limits held (Memory now by) = (now ≡ words) × (by ≡ pass)
