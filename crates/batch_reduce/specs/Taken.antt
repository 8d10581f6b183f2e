-- Some parts that were taken from the front of a list and merged (Elasticsearch Reference 8, 'Aggregations': the reduce phase).
use Rattle.std.specs.Prelude.{◌≡◌, ℕ, List, [], ◌∷◌, ◌++◌, length}
use Rattle.agg_model.specs.declared.aggregation.Search.{Search}
use Rattle.agg_model.specs.declared.partial.Partial.{Partial}
use Rattle.agg_evaluation.specs.Whole.{whole}
use Rattle.batch_reduce.specs.Parts.{AreParts}

pub record IsTaken (before : List Partial) (count : ℕ) (p : Partial) (after : List Partial) : Type 0 where
  pub front : List Partial
  pub is_front : before ≡ front ++ after
  pub many : length front ≡ count
  pub alone : count ≡ 1 → front ≡ p ∷ []
  pub merged : (search : Search) → AreParts search front → p ≡ whole search front
