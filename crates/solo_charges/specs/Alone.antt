-- A caller that is alone at the breakers: no other pass holds anything there (Elasticsearch Reference 8, 'Circuit breaker
-- settings').
use Rattle.std.specs.Prelude.{◌≡◌, ◌≤◌}
use Rattle.agg_model.specs.declared.limits.TheConstants.{MAX_BYTE_SIZE}
use Rattle.breaker_words.specs.Passes.{IsOf, PassModel, WordsModel}
use Rattle.breaker_words.specs.declared.trial.Trial.TheVariants.{Rest}

-- The pass is at rest and has the whole cap of the words. The parent's limit is one that settings name.
pub record IsAlone (words : WordsModel) (pass : PassModel) : Type 0 where
  pub of : IsOf words pass
  pub rest : pass.view.trial ≡ Rest
  pub whole : pass.view.cap ≡ pass.view.total
  pub limit : words.limits.parent ≤ MAX_BYTE_SIZE
