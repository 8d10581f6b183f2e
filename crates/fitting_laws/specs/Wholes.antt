-- The answers of some shards of an index, and which lists of shards those are.
use Rattle.std.specs.Prelude.{◌<◌, ◌≤◌, List, map, length, sum_by, IsTrue}
use Rattle.std.specs.List.{list_all}
use Rattle.agg_model.specs.declared.limits.TheConstants.{MAX_SHARDS, WEIGHT_LIMIT}
use Rattle.agg_model.specs.declared.aggregation.Search.{Search}
use Rattle.agg_model.specs.declared.mapping.Mapping.{Mapping}
use Rattle.agg_model.specs.declared.partial.Partial.{Partial}
use Rattle.agg_model.specs.declared.row.Document.{Document}
use Rattle.agg_evaluation.specs.Shard.{shard_answer}
use Rattle.agg_reading.specs.Store.{weight}
use Rattle.agg_evaluation.specs.Rows.{rows_of_documents}
use Rattle.agg_evaluation.specs.DocumentFits.{all_fit}

-- the answers of shards with these documents
abbrev pub answers_of : Search → List (List Document) → List Partial
answers_of search shards = map (λ documents. shard_answer search (rows_of_documents documents)) shards

-- Some shards of an index, in any order and each once, are at most MAX_SHARDS and weigh less than WEIGHT_LIMIT together.
pub record AreChosen (m : Mapping) (shards : List (List Document)) : Type 0 where
  pub fit : IsTrue (list_all (all_fit m) shards)
  pub few : length shards ≤ MAX_SHARDS
  pub light : sum_by (sum_by weight) shards < WEIGHT_LIMIT
