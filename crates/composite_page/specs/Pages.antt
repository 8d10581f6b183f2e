-- The page of a composite: its first buckets that come after a key (Elasticsearch Reference 8, 'Composite aggregation',
-- 'Pagination').
use Rattle.std.specs.Prelude.{ℕ, Bool, true, ◌&&◌, List, length, map, filter, take, Option}
use Rattle.std.specs.List.{list_all}
use Rattle.std.specs.Option.{option_map_or}
use Rattle.std.specs.Ordering.{is_gt}
use Rattle.agg_model.specs.declared.key.Key.{Key}
use Rattle.agg_model.specs.declared.partial.Bucket.{Bucket}
use Rattle.agg_model.specs.declared.partial.Node.{Node, out-Node}
use Rattle.agg_model.specs.declared.partial.Node.TheOpen.{Node-F}
use Rattle.agg_model.specs.declared.partial.Node.TheVariants.{Keyed}
use Rattle.agg_model.specs.declared.aggregation.Kind.{Kind}
use Rattle.agg_model.specs.declared.aggregation.CompositeSource.{CompositeSource}
use Rattle.list_laws.specs.Sorting.{sorted}
use Rattle.agg_evaluation.specs.CompositeKeys.{is_composite_of}
use Rattle.agg_evaluation.specs.Orders.{bucket_key, composite_cmp}
use Rattle.agg_evaluation.specs.Profile.{Form, profile}
use Rattle.agg_evaluation.specs.Shard.{page, sorted_by_key}
use Rattle.agg_evaluation.specs.Whole.{parts}
use Rattle.bucket_order.specs.Composites.{any_parts_cmp, key_parts}

-- the buckets' keys have a part for each of so many sources
abbrev pub are_composite : ℕ → List Bucket → Bool
are_composite n buckets = list_all (λ b. is_composite_of n (bucket_key b)) buckets

abbrev pub is_cursor : ℕ → Option Key → Bool
is_cursor n after = option_map_or (is_composite_of n) after true

-- the key comes after the one that is given
abbrev pub is_beyond : List CompositeSource → Option Key → Key → Bool
is_beyond sources after k = option_map_or (λ a. is_gt (composite_cmp sources k a)) after true

-- the same by the order that any two keys have
abbrev pub is_beyond_any : List CompositeSource → Option Key → Key → Bool
is_beyond_any sources after k = option_map_or (λ a. is_gt (any_parts_cmp sources (key_parts k) (key_parts a))) after true

-- the first buckets after the key in the order of the sources, ascending by key
abbrev pub page_buckets : List CompositeSource → ℕ → Option Key → List Bucket → List Bucket
page_buckets sources size after buckets =
    sorted_by_key (take size (filter (λ b. is_beyond sources after (bucket_key b)) (sorted (λ a b. composite_cmp sources (bucket_key a) (bucket_key b)) buckets)))

abbrev pub node_buckets : Node → List Bucket
node_buckets n = (parts n).buckets

abbrev pub node_keys : Node → List Key
node_keys n = map bucket_key (node_buckets n)

abbrev pub paged_level : List CompositeSource → ℕ → Option Key → Node-F Node Bucket → Node → Node
paged_level sources size after (Node-F.Keyed buckets error full cut) n = Keyed (page_buckets sources size after buckets) 0 0 0
paged_level sources size after (Node-F.Fixed buckets) n = n
paged_level sources size after (Node-F.Number m) n = n

abbrev pub paged_at : Kind → Node-F Node Bucket → Node → Node
paged_at k level n = elim (profile k).form [
  | Form.terms t ↦ n
  | Form.histogram h ↦ n
  | Form.pages sources size after ↦ paged_level sources size after level n
  | Form.fixed ks ↦ n
  | Form.number o ↦ n
]

-- the page of a composite's buckets; nodes of other kinds stay as they are
abbrev pub paged : Kind → Node → Node
paged k n = paged_at k (out-Node n) n

-- the keys of the page are the page of the keys
abbrev pub keys_of_page : Kind → List Key → List Key
keys_of_page k ks = elim (profile k).form [
  | Form.terms t ↦ ks
  | Form.histogram h ↦ ks
  | Form.pages sources size after ↦ page sources size after ks
  | Form.fixed places ↦ ks
  | Form.number o ↦ ks
]

-- the keys of the node, and the one that the page comes after, have a part for each source
abbrev pub can_page : Kind → Node → Bool
can_page k n = elim (profile k).form [
  | Form.terms t ↦ true
  | Form.histogram h ↦ true
  | Form.pages sources size after ↦ are_composite (length sources) (node_buckets n) && is_cursor (length sources) after
  | Form.fixed ks ↦ true
  | Form.number o ↦ true
]
