-- Stores and lists of shards whose documents fit.
use Rattle.std.specs.Prelude.{◌<◌, ◌≤◌, List, sum_by, IsTrue}
use Rattle.std.specs.List.{list_all}
use Rattle.agg_model.specs.declared.limits.TheConstants.{MAX_SHARDS, WEIGHT_LIMIT}
use Rattle.agg_model.specs.declared.mapping.Mapping.{Mapping}
use Rattle.agg_model.specs.declared.row.Document.{Document}
use Rattle.agg_reading.specs.Store.{Store, live_documents, store_weight, shards_of}
use Rattle.agg_reading.specs.Script.{Loaded}
use Rattle.agg_evaluation.specs.Rows.{rows_of_documents}
use Rattle.agg_evaluation.specs.RowsWeight.{rows_weight}
use Rattle.agg_model.specs.Contexts.{parents_before}
use Rattle.agg_model.specs.MappingOrder.{IsOrdered}
use Rattle.agg_evaluation.specs.DocumentFits.{all_fit}

-- all live documents fit, and weigh less than WEIGHT_LIMIT together
abbrev pub IsFitting : Mapping → Store → Type 0
IsFitting m store = IsTrue (all_fit m (live_documents store)) × (store_weight store < WEIGHT_LIMIT)

-- the documents of each shard fit, and the rows of all weigh less than WEIGHT_LIMIT together
pub record AreShards (m : Mapping) (shards : List (List Document)) : Type 0 where
  pub fit : IsTrue (list_all (all_fit m) shards)
  pub light : sum_by (λ documents. rows_weight (rows_of_documents documents)) shards < WEIGHT_LIMIT

-- what an index takes of what was loaded
pub record IsIndexed (l : Loaded) : Type 0 where
  pub fitting : IsFitting l.index.mapping l.store
  pub ordered : IsOrdered l.index.mapping
  pub paths : IsTrue (parents_before l.index.mapping)
  pub some : 1 ≤ l.index.shards
  pub at_most : l.index.shards ≤ MAX_SHARDS
  pub shards : AreShards l.index.mapping (shards_of l.store l.index.shards)
