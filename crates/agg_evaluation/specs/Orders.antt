-- The orders of buckets (Elasticsearch Reference 8, 'Terms aggregation' and 'Histogram aggregation' on order, 'Composite
-- aggregation' on the order of its sources).
use Rattle.std.specs.Prelude.{ℕ, ℤ, pos, Bool, List, [], ◌∷◌, Option, Some, None, option_and_then, slice_get}
use Rattle.std.specs.declared.cmp.Ordering.{Ordering}
use Rattle.std.specs.declared.cmp.Ordering.TheVariants.{Less, Equal, Greater}
use Rattle.std.specs.Ordering.{nat_cmp, int_cmp, ordering_then}
use Rattle.agg_model.specs.declared.key.Key.{Key, out-Key}
use Rattle.agg_model.specs.declared.key.Key.TheOpen.{Key-F}
use Rattle.agg_model.specs.declared.partial.Metric.{Metric}
use Rattle.agg_model.specs.declared.partial.Bucket.{Bucket}
use Rattle.agg_model.specs.declared.partial.Node.TheOpen.{Node-F}
use Rattle.agg_model.specs.declared.partial.Node.{Node, out-Node}
use Rattle.agg_model.specs.declared.aggregation.Kind.{Kind}
use Rattle.agg_model.specs.declared.aggregation.CompositeSource.{CompositeSource}
use Rattle.agg_model.specs.declared.aggregation.Order.{Order}
use Rattle.agg_model.specs.declared.aggregation.OrderBy.{OrderBy}
use Rattle.agg_model.specs.Options.{Measure}
use Rattle.agg_model.specs.declared.aggregation.OrderBy.TheVariants as by
use Rattle.agg_evaluation.specs.Profile.{Form, profile}
use Rattle.agg_evaluation.specs.CompositeKeys.{key_parts_at}
use Rattle.agg_evaluation.specs.KeyOrder.{key_cmp, directed}

-- a null value stands last in both directions
abbrev pub value_cmp : Bool → Option ℤ → Option ℤ → Ordering
value_cmp descending None None = Equal
value_cmp descending None (Some n) = Greater
value_cmp descending (Some m) None = Less
value_cmp descending (Some m) (Some n) = directed descending (int_cmp m n)

-- the value of a measure by which buckets are ordered; an average orders nothing
abbrev pub ordering_value : Measure → Metric → Option ℤ
ordering_value Measure.sum m = Some m.sum
ordering_value Measure.least m = m.least
ordering_value Measure.greatest m = m.greatest
ordering_value Measure.average m = None
ordering_value Measure.value_count m = Some (pos m.count)

-- the value by which a metric of this kind orders
abbrev pub metric_value : Kind → Metric → Option ℤ
metric_value k m = elim (profile k).form [
  | Form.terms t ↦ None
  | Form.histogram h ↦ None
  | Form.pages sources size after ↦ None
  | Form.fixed ks ↦ None
  | Form.number o ↦ ordering_value o.measure m
]

-- the metric of a node
abbrev pub number_of : Node-F Node Bucket → Option Metric
number_of (Node-F.Keyed buckets error full cut) = None
number_of (Node-F.Fixed buckets) = None
number_of (Node-F.Number m) = Some m

-- the value of a bucket's i-th child, where the children are of these kinds
abbrev pub child_value : List Kind → ℕ → Bucket → Option ℤ
child_value kinds i b =
    option_and_then (λ k. option_and_then (λ n. option_and_then (metric_value k) (number_of (out-Node n))) (slice_get b.children i)) (slice_get kinds i)

abbrev pub bucket_key : Bucket → Key
bucket_key b = b.key

abbrev pub bucket_count : Bucket → ℕ
bucket_count b = b.count

abbrev pub cmp_by : List Kind → Bool → OrderBy → Bucket → Bucket → Ordering
cmp_by kinds descending by.Count a b = directed descending (nat_cmp (bucket_count a) (bucket_count b))
cmp_by kinds descending by.Key a b = directed descending (key_cmp (bucket_key a) (bucket_key b))
cmp_by kinds descending (by.Child i) a b = value_cmp descending (child_value kinds i a) (child_value kinds i b)

-- the orders of the list in turn, and then ascending by key
abbrev pub bucket_cmp : List Kind → List Order → Bucket → Bucket → Ordering
bucket_cmp kinds [] a b = key_cmp (bucket_key a) (bucket_key b)
bucket_cmp kinds (o ∷ os) a b = ordering_then (cmp_by kinds o.descending o.by a b) (bucket_cmp kinds os a b)

-- part by part, each by the direction of its source
abbrev pub parts_cmp : List CompositeSource → List Key → List Key → Ordering
parts_cmp (s ∷ ss) (j ∷ js) (k ∷ ks) = ordering_then (directed s.descending (key_cmp j k)) (parts_cmp ss js ks)
parts_cmp _ _ _ = Equal

abbrev pub composite_cmp_at : List CompositeSource → Key-F Key → Key-F Key → Ordering
composite_cmp_at sources j k = parts_cmp sources (key_parts_at j) (key_parts_at k)

-- the order of a composite aggregation's keys
abbrev pub composite_cmp : List CompositeSource → Key → Key → Ordering
composite_cmp sources j k = composite_cmp_at sources (out-Key j) (out-Key k)
