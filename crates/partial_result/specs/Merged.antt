-- The union of two trees, level by level, with no aggregation at hand (Elasticsearch Reference 8, 'Aggregations': the reduce
-- phase). Of two trees of one aggregation it is their whole, which a law of this crate says.
use Rattle.std.specs.Prelude.{◌≡◌, ℕ, ℤ, ◌+◌, ◌-◌, ◌^◌, ◌+ℤ◌, min, List, [], ◌∷◌, ◌++◌, map, Option, Some, None}
use Rattle.std.specs.Int.{w128, int_min, int_max, saturate_signed}
use Rattle.std.specs.Ordering.{match_ordering}
use Rattle.agg_model.specs.declared.key.Key.{Key}
use Rattle.agg_model.specs.declared.partial.Metric.{Metric}
use Rattle.agg_model.specs.declared.partial.Bucket.{Bucket}
use Rattle.agg_model.specs.declared.partial.Node.{Node, out-Node, roll-Node}
use Rattle.agg_model.specs.declared.partial.Node.TheOpen.{Node-F, Bucket-F}
use Rattle.agg_model.specs.declared.partial.Node.TheVariants.{Keyed, Fixed, Number}
use Rattle.agg_model.specs.declared.partial.Node.TheFolds.{para-Node, para-Bucket}
use Rattle.agg_model.specs.declared.partial.Partial.{Partial}
use Rattle.agg_evaluation.specs.KeyOrder.{key_cmp}

-- a part of the other tree, and what it makes of the part of the first tree that has its key or its place
abbrev pub OtherNode : Type 0
OtherNode = Node × (Node → Node)

abbrev pub OtherBucket : Type 0
OtherBucket = Bucket × (Bucket → Bucket)

-- sums that stay at the greatest number where they do not fit
abbrev pub sum_u64 : ℕ → ℕ → ℕ
sum_u64 m n = min (m + n) (2 ^ 64 - 1)

abbrev pub sum_u32 : ℕ → ℕ → ℕ
sum_u32 m n = min (m + n) (2 ^ 32 - 1)

abbrev pub sum_i128 : ℤ → ℤ → ℤ
sum_i128 m n = saturate_signed w128 (m +ℤ n)

-- the one number that is there, or what the two give
abbrev pub either_or : (ℤ → ℤ → ℤ) → Option ℤ → Option ℤ → Option ℤ
either_or choose None y = y
either_or choose (Some x) None = Some x
either_or choose (Some x) (Some y) = Some (choose x y)

abbrev pub merged_metric : Metric → Metric → Metric
merged_metric m n = record {
  count = sum_u64 n.count m.count;
  sum = sum_i128 n.sum m.sum;
  least = either_or int_min n.least m.least;
  greatest = either_or int_max n.greatest m.greatest;
}

-- the bucket joined with the one that has its key, or put before the first of a greater key; `next` goes on behind it
abbrev pub put_in : OtherBucket → (List Bucket → List Bucket) → List Bucket → List Bucket
put_in o next [] = o.0 ∷ next []
put_in o next (b ∷ bs) = match_ordering (key_cmp o.0.key b.key) (o.0 ∷ next (b ∷ bs)) (o.1 b ∷ next bs) (b ∷ put_in o next bs)

-- two lists of buckets that ascend by key, as one
abbrev pub united : List OtherBucket → List Bucket → List Bucket
united [] bs = bs
united (o ∷ os) bs = put_in o (united os) bs

-- child by child, as many as the first tree has
abbrev pub merged_children : List OtherNode → List Node → List Node
merged_children [] ns = ns
merged_children (m ∷ ms) [] = []
merged_children (m ∷ ms) (n ∷ ns) = m.1 n ∷ merged_children ms ns

abbrev pub merge_bucket_at : Bucket-F OtherNode OtherBucket → Bucket → Bucket
merge_bucket_at b c =
    record { key = c.key; count = sum_u64 c.count b.count; covered = sum_u64 c.covered b.covered; children = merged_children b.children c.children }

abbrev pub merge_node_at : Node-F OtherNode OtherBucket → Node-F Node Bucket → Node
merge_node_at (Node-F.Keyed bs error full cut) (Node-F.Keyed cs error' full' cut') = Keyed (united bs cs) (sum_u64 error' error) (sum_u32 full' full) (sum_u64 cut' cut)
merge_node_at (Node-F.Keyed bs error full cut) (Node-F.Fixed cs) = roll-Node (Node-F.Fixed cs)
merge_node_at (Node-F.Keyed bs error full cut) (Node-F.Number n) = roll-Node (Node-F.Number n)
merge_node_at (Node-F.Fixed bs) (Node-F.Keyed cs error full cut) = roll-Node (Node-F.Keyed cs error full cut)
merge_node_at (Node-F.Fixed bs) (Node-F.Fixed cs) = Fixed (united bs cs)
merge_node_at (Node-F.Fixed bs) (Node-F.Number n) = roll-Node (Node-F.Number n)
merge_node_at (Node-F.Number m) (Node-F.Keyed cs error full cut) = roll-Node (Node-F.Keyed cs error full cut)
merge_node_at (Node-F.Number m) (Node-F.Fixed cs) = roll-Node (Node-F.Fixed cs)
merge_node_at (Node-F.Number m) (Node-F.Number n) = Number (merged_metric m n)

-- the other tree, and then the first
abbrev pub merged : Node → Node → Node
merged = para-Node (Node → Node) (Bucket → Bucket) (λ m n. merge_node_at m (out-Node n)) merge_bucket_at

abbrev pub merged_bucket : Bucket → Bucket → Bucket
merged_bucket = para-Bucket (Node → Node) (Bucket → Bucket) (λ m n. merge_node_at m (out-Node n)) merge_bucket_at

abbrev pub other_bucket : Bucket → OtherBucket
other_bucket b = (b, merged_bucket b)

abbrev pub other_node : Node → OtherNode
other_node n = (n, merged n)

abbrev pub merged_nodes : List Node → List Node → List Node
merged_nodes ms ns = merged_children (map other_node ms) ns

-- the other partial result, and then the first
abbrev pub merged_partial : Partial → Partial → Partial
merged_partial p q = record { hits = sum_u64 q.hits p.hits; nodes = merged_nodes p.nodes q.nodes }

-- what a bucket of the other tree comes to, where the first tree has this bucket of its key or none
abbrev pub joined : Option Bucket → OtherBucket → Bucket
joined None o = o.0
joined (Some b) o = o.1 b

-- Some buckets were passed from the front of `rest` to the end of `passed`, and the bucket of the key was found behind them or
-- not: any bucket of the key that is now put in makes what it would have made before.
abbrev pub IsPassed : Key → List Bucket → List Bucket → Option Bucket → List Bucket → List Bucket → Type 0
IsPassed key passed rest found passed' rest' =
    (o : OtherBucket) (next : List Bucket → List Bucket) → o.0.key ≡ key → passed ++ put_in o next rest ≡ passed' ++ joined found o ∷ next rest'
