-- Paths of returned buckets on which no terms were cut, and what stands at their end ('Terms aggregation', `sum_other_doc_count`,
-- on the terms that a shard leaves out; 'Composite aggregation', on pages).
use Rattle.std.specs.Prelude.{ℕ, ◌==◌, ◌&&◌, Bool, true, false, List, [], ◌∷◌, map, find, slice_get}
use Rattle.std.specs.List.{list_any}
use Rattle.std.specs.Option.{option_map_or}
use Rattle.agg_model.specs.declared.key.Key.{Key}
use Rattle.agg_model.specs.declared.partial.Node.{Node}
use Rattle.agg_model.specs.declared.partial.Partial.{Partial}
use Rattle.agg_model.specs.declared.answer.Answer.{Answer}
use Rattle.agg_model.specs.declared.answer.BucketAnswer.{out-BucketAnswer}
use Rattle.agg_model.specs.declared.answer.NodeAnswer.{NodeAnswer, out-NodeAnswer}
use Rattle.agg_model.specs.declared.aggregation.Agg.{Agg}
use Rattle.agg_model.specs.declared.aggregation.Search.{Search}
use Rattle.agg_evaluation.specs.KeyOrder.{key_eq, has_key}
use Rattle.agg_evaluation.specs.Orders.{bucket_key}
use Rattle.agg_evaluation.specs.Rows.{PlacedRow}
use Rattle.agg_evaluation.specs.Shard.{shard_answer}
use Rattle.agg_evaluation.specs.TrueCounts.{BucketPath, answered_rows, children_of}
use Rattle.agg_evaluation.specs.Whole.{parts, whole}
use Rattle.agg_spec.specs.Final.{final, finisher}

-- what shards answer together, and the final answer to it
abbrev pub whole_of_shards : Search → List (List PlacedRow) → Partial
whole_of_shards search shards = whole search (map (shard_answer search) shards)

abbrev pub answer_of_shards : Search → List (List PlacedRow) → Answer
answer_of_shards search shards = final search (whole_of_shards search shards)

-- the nodes below a bucket, which is given by the place of its aggregation among its siblings and its key
abbrev pub nodes_below : List Node → ℕ × Key → List Node
nodes_below nodes step =
    option_map_or (λ n. option_map_or (λ b. b.children) (find (λ b. key_eq step.1 (bucket_key b)) (parts n).buckets) [])
    (slice_get nodes step.0) []

-- the nodes below the end of a path
abbrev pub nodes_at : List Node → BucketPath → List Node
nodes_at nodes [] = nodes
nodes_at nodes (step ∷ path) = nodes_at (nodes_below nodes step) path

-- whether an answer returns a bucket of the key
abbrev pub returns : Key → NodeAnswer → Bool
returns key n = list_any (λ b. key_eq key (out-BucketAnswer b).key) (out-NodeAnswer n).buckets

-- whether no term of the node was cut, and it has a bucket of the key that its answer returns
abbrev pub is_uncut_at : Agg → Node → Key → Bool
is_uncut_at a n key = ((parts n).cut == 0) && (has_key key (map bucket_key (parts n).buckets) && returns key ((finisher a).finish n))

-- whether it is so at each step of the path
abbrev pub is_uncut : List Agg → List Node → BucketPath → Bool
is_uncut aggs nodes [] = true
is_uncut aggs nodes (step ∷ path) =
    option_map_or (λ a. option_map_or (λ n. is_uncut_at a n step.1) (slice_get nodes step.0) false
    && is_uncut (children_of a) (nodes_below nodes step) path) (slice_get aggs step.0) false

-- the rows of each shard, and those of them at the end of the path
abbrev pub answered_by_shard : Search → BucketPath → List (List PlacedRow) → List (List PlacedRow × List PlacedRow)
answered_by_shard search path shards = map (λ all. (all, answered_rows search path all)) shards
