-- The shard answer: the tree that one shard answers to an aggregation (Elasticsearch Reference 8, 'Aggregations';
-- 'Terms aggregation' on shard size and on errors of counts; 'Composite aggregation' on pages).
use Rattle.std.specs.Prelude.{ℕ, ℤ, pos, ◌+ℤ◌, ◌-◌, ◌==◌, Bool, true, false, if◌then◌else◌, List, [], ◌∷◌, map, filter, filter_map, flat_map, length, take, sum_by, Option, Some, None, unwrap_or}
use Rattle.std.specs.List.{reduce, last_or}
use Rattle.std.specs.Option.{option_map_or}
use Rattle.std.specs.Int.{int_min, int_max}
use Rattle.std.specs.Ordering.{is_gt}
use Rattle.agg_model.specs.declared.key.Key.{Key}
use Rattle.agg_model.specs.declared.partial.Metric.{Metric}
use Rattle.agg_model.specs.declared.partial.Bucket.{Bucket}
use Rattle.agg_model.specs.declared.partial.Node.{Node}
use Rattle.agg_model.specs.declared.partial.Node.TheVariants.{Keyed, Fixed, Number}
use Rattle.agg_model.specs.declared.partial.Partial.{Partial}
use Rattle.agg_model.specs.declared.row.Scalar.{Scalar}
use Rattle.agg_model.specs.declared.row.Scalar.TheVariants.{Whole, Word, Flag}
use Rattle.agg_model.specs.declared.aggregation.Kind.{Kind}
use Rattle.agg_model.specs.declared.aggregation.CompositeSource.{CompositeSource}
use Rattle.agg_model.specs.declared.aggregation.Order.{Order}
use Rattle.agg_model.specs.declared.aggregation.Agg.{Agg}
use Rattle.agg_model.specs.declared.aggregation.Agg.TheOpen.{Agg-F}
use Rattle.agg_model.specs.declared.aggregation.Search.{Search}
use Rattle.agg_evaluation.specs.Profile.{Form, one_key, profile}
use Rattle.agg_evaluation.specs.Folds.{fold_agg}
use Rattle.list_laws.specs.Sorting.{sorted}
use Rattle.agg_evaluation.specs.KeyOrder.{key_cmp}
use Rattle.agg_evaluation.specs.Orders.{bucket_cmp, bucket_key, bucket_count, composite_cmp}
use Rattle.agg_evaluation.specs.Rows.{PlacedRow, roots}
use Rattle.agg_evaluation.specs.Matching.{matched_roots}
use Rattle.agg_evaluation.specs.Keys.{values_or}
use Rattle.agg_evaluation.specs.Groups.{under, group, all_keys, total_key_count}

-- the whole number that a value is
abbrev pub integer_of : Scalar → Option ℤ
integer_of (Whole n) = Some n
integer_of (Word w) = None
integer_of (Flag b) = None

abbrev pub int_sum : List ℤ → ℤ
int_sum [] = pos 0
int_sum (n ∷ ns) = n +ℤ int_sum ns

abbrev pub metric_of : List Scalar → Metric
metric_of values =
    let numbers = filter_map integer_of values in
    record { count = length values; sum = int_sum numbers; least = reduce int_min numbers; greatest = reduce int_max numbers }

-- the keys of the buckets that exist from the start, of a kind that has such
abbrev pub fixed_keys : Kind → List Key
fixed_keys k = elim (profile k).form [
  | Form.terms t ↦ one_key
  | Form.histogram h ↦ one_key
  | Form.pages sources size after ↦ one_key
  | Form.fixed ks ↦ ks
  | Form.number o ↦ one_key
]

-- the first keys greater than `after` in the order of the sources, ascending
abbrev pub page : List CompositeSource → ℕ → Option Key → List Key → List Key
page sources size after ks =
    let order = composite_cmp sources in
    sorted key_cmp (take size (filter (λ k. option_map_or (λ a. is_gt (order k a)) after true) (sorted order ks)))

abbrev pub sorted_by_key : List Bucket → List Bucket
sorted_by_key = sorted (λ a b. key_cmp (bucket_key a) (bucket_key b))

abbrev pub with_covered : ℕ → Bucket → Bucket
with_covered error b = record b { covered = error }

-- The first `shard_size` buckets in the order. Where there are so many, the error is the count of the last one kept: by
-- descending count, no term that is left out has more rows. What is cut are the keys of all rows less the counts of the kept.
abbrev pub trimmed_node : List Kind → ℕ → List Order → ℕ → List Bucket → Node
trimmed_node kinds shard_size order key_count buckets =
    let kept = take shard_size (sorted (bucket_cmp kinds order) buckets) in
    let is_full = length kept == shard_size in
    let error = if is_full then unwrap_or (last_or None (map bucket_count kept)) 0 else 0 in
    Keyed (sorted_by_key (map (with_covered error) kept)) error (if is_full then 1 else 0) (key_count - sum_by bucket_count kept)

-- whether the buckets of the kind are cut in a shard
abbrev pub is_terms : Kind → Bool
is_terms k = elim (profile k).form [
  | Form.terms t ↦ true
  | Form.histogram h ↦ false
  | Form.pages sources size after ↦ false
  | Form.fixed ks ↦ false
  | Form.number o ↦ false
]

-- an aggregation's kind, and what it collects of the rows that it is handed
pub record Collector : Type 0 where
  pub kind : Kind
  pub collect : List PlacedRow → Node

-- `trims` says whether terms are cut, `all` are the rows of the shard, `roots` those that a global aggregation counts
module _ (trims : Bool) (all roots : List PlacedRow) where
  abbrev pub bucket_of : Kind → List Collector → List PlacedRow → Key → Bucket
  bucket_of k children counted key =
      let rows = group all k counted key in
      (record { key = key; count = length rows; covered = 0; children = map (λ c. c.collect rows) children })

  -- the node of the rows that the aggregation counts
  abbrev pub node_of : List Collector → Kind → List PlacedRow → Node
  node_of children k counted = elim (profile k).form [
    | Form.terms t ↦
        (let buckets = map (bucket_of k children counted) (all_keys all k counted) in
        if trims then trimmed_node (map (λ c. c.kind) children) t.shard_size t.order (total_key_count all k counted) buckets else Keyed buckets 0 0 0)
    | Form.histogram h ↦ Keyed (map (bucket_of k children counted) (all_keys all k counted)) 0 0 0
    | Form.pages sources size after ↦ Keyed (map (bucket_of k children counted) (page sources size after (all_keys all k counted))) 0 0 0
    | Form.fixed ks ↦ Fixed (map (bucket_of k children counted) ks)
    | Form.number o ↦ Number (metric_of (flat_map (values_or o.field o.missing) counted))
  ]

  abbrev pub collector_of : Agg-F Collector → Collector
  collector_of a = record { kind = a.kind; collect = λ rows. node_of a.children a.kind (under all roots a.kind rows) }

  abbrev pub collected_node : Agg → List PlacedRow → Node
  collected_node a = (fold_agg collector_of a).collect

-- what a shard with these rows answers to an aggregation of some of them
abbrev pub shard_node : List PlacedRow → Agg → List PlacedRow → Node
shard_node all = collected_node true all (roots all)

-- what a shard with these rows answers to a search
abbrev pub shard_answer : Search → List PlacedRow → Partial
shard_answer search all =
    let matched = matched_roots all search.query in
    record { hits = length matched; nodes = map (λ a. shard_node all a matched) search.aggs }
