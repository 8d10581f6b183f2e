-- An index whose columns are charged ('Circuit breaker settings' of Elasticsearch Reference 8, fielddata).
use Rattle.std.specs.Prelude.{◌≡◌, None}
use Rattle.breaker_tree.specs.Reopening.{HoldsColumns}
use Rattle.fitting_laws.specs.Indexes.{index_of}
use Rattle.agg_model.specs.declared.settings.Settings.{Settings}
use Rattle.agg_spec.specs.Columns.{columns_charge, columns_refusal}
use Rattle.breaker_words.specs.Passes.{WordsModel, PassModel}
use Rattle.shard_columns.specs.declared.index.Index.{Index}

-- the one pass holds the charge of the columns alone, for which the limits of the settings have room
pub record IsCharged (settings : Settings) (index : Index) (words : WordsModel) (pass : PassModel) : Type 0 where
  pub holds : HoldsColumns settings.limits (columns_charge (index_of index)) words pass
  pub light : columns_refusal settings.limits (columns_charge (index_of index)) ≡ None
