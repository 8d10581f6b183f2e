-- The groups of a scan over a composite aggregation, which its pages give one after another ('Composite aggregation', pagination).
use Rattle.std.specs.Prelude.{ℕ, Bool, true, List, [], ◌∷◌, map, filter, flat_map, Option, Some, None, slice_get}
use Rattle.std.specs.Option.{option_map_or}
use Rattle.std.specs.Ordering.{is_gt}
use Rattle.agg_model.specs.declared.key.Key.{Key}
use Rattle.agg_model.specs.declared.answer.BucketAnswer.{BucketAnswer, out-BucketAnswer}
use Rattle.agg_model.specs.declared.answer.NodeAnswer.{NodeAnswer, out-NodeAnswer}
use Rattle.agg_model.specs.declared.aggregation.CompositeSource.{CompositeSource}
use Rattle.agg_model.specs.declared.aggregation.Kind.{Kind}
use Rattle.agg_model.specs.declared.aggregation.Search.{Search}
use Rattle.agg_evaluation.specs.Profile.{Form, profile}
use Rattle.agg_evaluation.specs.Groups.{all_keys}
use Rattle.agg_evaluation.specs.Keys.{distinct_keys}
use Rattle.agg_evaluation.specs.Matching.{matched_roots}
use Rattle.agg_evaluation.specs.Orders.{composite_cmp}
use Rattle.agg_evaluation.specs.Rows.{PlacedRow}
use Rattle.agg_evaluation.specs.TrueCounts.{kind_of, true_count}
use Rattle.list_laws.specs.Sorting.{sorted}

-- a key, and how many rows have it
abbrev pub Group : Type 0
Group = Key × ℕ

-- the keys that the matched rows of all shards have, each once
abbrev pub matched_keys : List (List PlacedRow) → Search → Kind → List Key
matched_keys shards request kind = distinct_keys (flat_map (λ all. all_keys all kind (matched_roots all request.query)) shards)

-- whether the key comes after another, where one is given
abbrev pub is_after : List CompositeSource → Option Key → Key → Bool
is_after sources after key = option_map_or (λ a. is_gt (composite_cmp sources key a)) after true

-- the keys that come after `after`, in the order of the sources
abbrev pub keys_after : List (List PlacedRow) → Search → Kind → List Key
keys_after shards request kind = elim (profile kind).form [
  | Form.terms t ↦ []
  | Form.histogram h ↦ []
  | Form.pages sources size after ↦ filter (is_after sources after) (sorted (composite_cmp sources) (matched_keys shards request kind))
  | Form.fixed ks ↦ []
  | Form.number o ↦ []
]

-- the groups of the search's first aggregation, a composite, that are greater than its `after`
abbrev pub composite_groups : List (List PlacedRow) → Search → List Group
composite_groups shards request =
    option_map_or (λ a. map (λ key. (key, true_count shards request ((0, key) ∷ []))) (keys_after shards request (kind_of a)))
    (slice_get request.aggs 0) []

-- the keys and counts that an answer returns
abbrev pub group_answer : BucketAnswer → Group
group_answer b = ((out-BucketAnswer b).key, (out-BucketAnswer b).count)

abbrev pub answered_groups : NodeAnswer → List Group
answered_groups n = map group_answer (out-NodeAnswer n).buckets

-- how many groups a page has
abbrev pub page_size : Kind → Option ℕ
page_size kind = elim (profile kind).form [
  | Form.terms t ↦ None
  | Form.histogram h ↦ None
  | Form.pages sources size after ↦ Some size
  | Form.fixed ks ↦ None
  | Form.number o ↦ None
]
