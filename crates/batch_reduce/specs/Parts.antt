-- The parts of a search that are merged: results of one search, which add up within the types of their numbers (Elasticsearch
-- Reference 8, 'Aggregations': the reduce phase).
use Rattle.std.specs.Prelude.{◌≡◌, ℕ, List, ◌++◌, sum_by, IsTrue}
use Rattle.std.specs.List.{list_all}
use Rattle.agg_model.specs.declared.aggregation.Search.{Search}
use Rattle.agg_model.specs.declared.partial.Partial.{Partial}
use Rattle.agg_evaluation.specs.Cost.{cost}
use Rattle.agg_evaluation.specs.Trees.{is_result_of, numbers_fit}
use Rattle.agg_evaluation.specs.Whole.{whole}

-- however many parts that stand side by side are added up, their numbers fit
pub record AreParts (search : Search) (parts : List Partial) : Type 0 where
  pub results : IsTrue (list_all (is_result_of search) parts)
  pub fit : (before some after : List Partial) → parts ≡ before ++ some ++ after → IsTrue (numbers_fit (whole search some))

-- what the parts cost together
abbrev pub cost_of_parts : List Partial → ℕ
cost_of_parts parts = sum_by cost parts
