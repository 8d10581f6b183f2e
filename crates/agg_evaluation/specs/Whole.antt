-- The whole: the union of the answers of several shards (Elasticsearch Reference 8, 'Aggregations': the reduce phase, in which
-- the coordinating node adds up what the shards answered).
use Rattle.std.specs.Prelude.{ℕ, pos, None, List, [], ◌∷◌, map, filter, filter_map, flat_map, sum_by, slice_get}
use Rattle.std.specs.List.{reduce, enumerate_from}
use Rattle.std.specs.Int.{int_min, int_max}
use Rattle.agg_model.specs.declared.key.Key.{Key}
use Rattle.agg_model.specs.declared.partial.Metric.{Metric}
use Rattle.agg_model.specs.declared.partial.Bucket.{Bucket}
use Rattle.agg_model.specs.declared.partial.Node.{Node, out-Node}
use Rattle.agg_model.specs.declared.partial.Node.TheOpen.{Node-F}
use Rattle.agg_model.specs.declared.partial.Node.TheVariants.{Keyed, Fixed, Number}
use Rattle.agg_model.specs.declared.partial.Partial.{Partial}
use Rattle.agg_model.specs.declared.aggregation.Kind.{Kind}
use Rattle.agg_model.specs.declared.aggregation.Agg.{Agg}
use Rattle.agg_model.specs.declared.aggregation.Search.{Search}
use Rattle.agg_evaluation.specs.Profile.{Form, profile}
use Rattle.agg_evaluation.specs.Folds.{fold_agg}
use Rattle.agg_evaluation.specs.KeyOrder.{key_eq}
use Rattle.agg_evaluation.specs.Orders.{bucket_key, bucket_count}
use Rattle.agg_evaluation.specs.Keys.{distinct_keys}
use Rattle.agg_evaluation.specs.Shard.{fixed_keys, int_sum}

-- what a node has: buckets by the keys of rows, buckets that exist from the start, or a number
pub data Shape : Type 0 where
  by_key : Shape
  from_start : Shape
  a_number : Shape

abbrev pub shape_of : Kind → Shape
shape_of k = elim (profile k).form [
  | Form.terms t ↦ by_key
  | Form.histogram h ↦ by_key
  | Form.pages sources size after ↦ by_key
  | Form.fixed ks ↦ from_start
  | Form.number o ↦ a_number
]

-- a node's parts, where the parts that it has not are empty
pub record Parts : Type 0 where
  pub buckets : List Bucket
  pub error : ℕ
  pub full : ℕ
  pub cut : ℕ
  pub metrics : List Metric

abbrev pub parts_at : Node-F Node Bucket → Parts
parts_at (Node-F.Keyed buckets error full cut) = record { buckets = buckets; error = error; full = full; cut = cut; metrics = [] }
parts_at (Node-F.Fixed buckets) = record { buckets = buckets; error = 0; full = 0; cut = 0; metrics = [] }
parts_at (Node-F.Number m) = record { buckets = []; error = 0; full = 0; cut = 0; metrics = m ∷ [] }

abbrev pub parts : Node → Parts
parts n = parts_at (out-Node n)

-- the metric of all values together
abbrev pub metric_sum : List Metric → Metric
metric_sum ms = record {
  count = sum_by (λ m. m.count) ms;
  sum = int_sum (map (λ m. m.sum) ms);
  least = reduce int_min (filter_map (λ m. m.least) ms);
  greatest = reduce int_max (filter_map (λ m. m.greatest) ms);
}

-- the n-th children of the buckets, where they have so many
abbrev pub children_at : List Bucket → ℕ → List Node
children_at buckets n = filter_map (λ b. slice_get b.children n) buckets

-- the bucket of a key: counts are added, and the children are the wholes of the children
abbrev pub whole_bucket : List (List Node → Node) → List Bucket → Key → Bucket
whole_bucket children buckets key =
    let same = filter (λ b. key_eq key (bucket_key b)) buckets in
    (record {
      key = key;
      count = sum_by bucket_count same;
      covered = sum_by (λ b. b.covered) same;
      children = map (λ c. c.1 (children_at same c.0)) (enumerate_from 0 children);
    })

-- A node over some trees. The first argument gives the wholes of the children.
abbrev pub whole_by : List (List Node → Node) → Kind → Shape → List Node → Node
whole_by children k by_key trees =
    let buckets = flat_map (λ t. (parts t).buckets) trees in
    Keyed (map (whole_bucket children buckets) (distinct_keys (map bucket_key buckets)))
    (sum_by (λ t. (parts t).error) trees) (sum_by (λ t. (parts t).full) trees) (sum_by (λ t. (parts t).cut) trees)
whole_by children k from_start trees = Fixed (map (whole_bucket children (flat_map (λ t. (parts t).buckets) trees)) (fixed_keys k))
whole_by children k a_number trees = Number (metric_sum (flat_map (λ t. (parts t).metrics) trees))

-- the whole of trees of one aggregation
abbrev pub whole_node : Agg → List Node → Node
whole_node = fold_agg (λ a. whole_by a.children a.kind (shape_of a.kind))

-- the whole of the shard answers to one search
abbrev pub whole : Search → List Partial → Partial
whole search trees = record {
  hits = sum_by (λ t. t.hits) trees;
  nodes = map (λ a. whole_node a.1 (filter_map (λ t. slice_get t.nodes a.0) trees)) (enumerate_from 0 search.aggs);
}

-- a node of no tree, whose children are given
abbrev pub empty_by : List Node → List Key → Shape → Node
empty_by children fixed by_key = Keyed [] 0 0 0
empty_by children fixed from_start = Fixed (map (λ key. record { key = key; count = 0; covered = 0; children = children }) fixed)
empty_by children fixed a_number = Number (record { count = 0; sum = pos 0; least = None; greatest = None })

-- the empty tree of an aggregation: only the buckets that exist from the start, and nothing in them
abbrev pub empty_node : Agg → Node
empty_node = fold_agg (λ a. empty_by a.children (fixed_keys a.kind) (shape_of a.kind))

abbrev pub empty_result : Search → Partial
empty_result search = record { hits = 0; nodes = map empty_node search.aggs }
