-- Paths of the numbers out of range in an answer.
use Rattle.std.specs.Prelude.{ℕ, List, [], ◌++◌, flat_map, codes}
use Rattle.agg_model.specs.declared.aggregation.Kind.{Kind}
use Rattle.agg_model.specs.declared.answer.NodeAnswer.{NodeAnswer, out-NodeAnswer}
use Rattle.agg_spec.specs.RangeCheck.{Checker, unless, sum_in_range, check_bucket}

-- a slash, a name and the path below it
abbrev pub path_bytes : List ℕ → List ℕ → List ℕ
path_bytes name below = codes "/" ++ (name ++ below)

-- the paths below a node: its sum has none, and then come its buckets
abbrev pub checked_inside : List Checker → Kind → NodeAnswer → List (List ℕ)
checked_inside children kind n = unless (sum_in_range kind (out-NodeAnswer n).metric.sum) [] ++ flat_map (check_bucket children) (out-NodeAnswer n).buckets
