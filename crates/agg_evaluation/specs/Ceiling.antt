-- The ceiling of a task: what it can hold at most, computed from its rows before it runs; a search above 2 ^ 50 is too wide
-- (Elasticsearch Reference 8, 'Circuit breaker settings' on limits that a request is tried against before it runs).
use Rattle.std.specs.Prelude.{ℕ, ◌+◌, ◌*◌, ◌^◌, Bool, true, false, nat_lt, if◌then◌else◌, List, [], ◌∷◌, ◌++◌, map, flat_map, length, sum, Option, Some, None, option_map, option_and_then, option_to_list, slice_get}
use Rattle.std.specs.List.{list_any}
use Rattle.agg_model.specs.declared.costs.TheConstants.{BUCKET_BYTES, NODE_BYTES}
use Rattle.agg_model.specs.declared.limits.TheConstants.{MAX_COMBINATIONS}
use Rattle.agg_model.specs.declared.mapping.FieldKind.{FieldKind}
use Rattle.agg_model.specs.FieldKinds.{ValueKind, value_kind}
use Rattle.agg_model.specs.declared.row.Scalar.{Scalar}
use Rattle.agg_model.specs.declared.aggregation.Agg.{Agg, out-Agg}
use Rattle.agg_model.specs.declared.aggregation.Agg.TheOpen.{Agg-F}
use Rattle.agg_model.specs.declared.aggregation.CompositeSource.{CompositeSource}
use Rattle.agg_model.specs.declared.aggregation.Kind.{Kind}
use Rattle.agg_model.specs.declared.aggregation.Search.{Search}
use Rattle.agg_evaluation.specs.Profile.{Form, profile}
use Rattle.agg_evaluation.specs.Folds.{fold_agg}
use Rattle.agg_evaluation.specs.Rows.{PlacedRow, roots, values_of}
use Rattle.agg_model.specs.ValueKeys.{scalar_key}
use Rattle.agg_evaluation.specs.Cost.{key_bytes}
use Rattle.agg_evaluation.specs.Matching.{matched_roots}
use Rattle.agg_evaluation.specs.Keys.{keys, source_keys}
use Rattle.agg_evaluation.specs.Groups.{under}
use Rattle.agg_evaluation.specs.Shard.{fixed_keys}
use Rattle.agg_evaluation.specs.Whole.{Shape, by_key, from_start, a_number, shape_of}
use Rattle.agg_evaluation.specs.Trace.{is_global, task_overhead}

abbrev pub greatest_ceiling : ℕ
greatest_ceiling = 2 ^ 50

-- the most combinations of keys that one row may have at a composite aggregation
abbrev pub greatest_combinations : ℕ
greatest_combinations = MAX_COMBINATIONS

abbrev pub greatest_of : List ℕ → ℕ
greatest_of [] = 0
greatest_of (n ∷ ns) = let rest = greatest_of ns in if nat_lt n rest then rest else n

-- a key that is a number, a date or a flag has 8 bytes
abbrev pub least_bytes : Option FieldKind → ℕ
least_bytes None = 8
least_bytes (Some kind) = elim (value_kind kind) [ ValueKind.wholes half ↦ 8 | ValueKind.words ↦ 0 | ValueKind.flags ↦ 8 | ValueKind.dates ↦ 8 ]

-- a bound on the bytes of a field's keys: 8 for numbers, dates and flags, and for keywords the length of the longest value
abbrev pub value_bytes : Option FieldKind → List Scalar → ℕ
value_bytes kind values = greatest_of (least_bytes kind ∷ map (λ v. key_bytes (scalar_key v)) values)

-- how many combinations of keys a row has
abbrev pub combination_count : List CompositeSource → PlacedRow → ℕ
combination_count [] row = 1
combination_count (s ∷ ss) row = length (source_keys row s) * combination_count ss row

-- a row, and how many paths of keys lead to it from the top
abbrev pub Reached : Type 0
Reached = PlacedRow × ℕ

abbrev pub path_count : List Reached → ℕ
path_count reached = sum (map (λ r. r.1) reached)

-- `kinds` are the kinds of the mapping's fields, and `all` the rows of the shard
module _ (kinds : List FieldKind) (all : List PlacedRow) where
  -- over all values of the field in the shard, and the one that stands for a missing value
  abbrev pub field_bytes : ℕ → Option Scalar → ℕ
  field_bytes field missing = value_bytes (slice_get kinds field) (option_to_list missing ++ flat_map (values_of field) all)

  -- a composite key's part is counted as at least 1, which null has
  abbrev pub part_bytes : CompositeSource → ℕ
  part_bytes s = greatest_of (1 ∷ field_bytes s.field None ∷ [])

  -- a bound on the bytes of a key
  abbrev pub key_bound : Kind → ℕ
  key_bound k = elim (profile k).form [
    | Form.terms t ↦ field_bytes t.field t.missing
    | Form.histogram h ↦ 8
    | Form.pages sources size after ↦ sum (map part_bytes sources)
    | Form.fixed ks ↦ 0
    | Form.number o ↦ 0
  ]

  -- the rows that an aggregation counts of those that reach it
  abbrev pub counted_from : Kind → List Reached → List Reached
  counted_from k reached = flat_map (λ r. map (λ row. (row, r.1)) (under all (r.0 ∷ []) k (r.0 ∷ []))) reached

  -- each path to a row goes on through each of its keys
  abbrev pub handed_on : Kind → List Reached → List Reached
  handed_on k reached = map (λ r. (r.0, r.1 * length (keys all k r.0))) (counted_from k reached)

  -- a bound on the buckets of so many nodes, to whose keys so many paths lead
  abbrev pub bucket_bound : Kind → Shape → ℕ → ℕ → ℕ
  bucket_bound k by_key nodes paths = paths
  bucket_bound k from_start nodes paths = nodes * length (fixed_keys k)
  bucket_bound k a_number nodes paths = 0

  -- The bytes of so many nodes of an aggregation and of all below them, where these rows reach them. A bucket of the
  -- parent is one node.
  abbrev pub node_bound_at : Agg-F (ℕ → List Reached → ℕ) → ℕ → List Reached → ℕ
  node_bound_at a nodes reached =
      let handed = handed_on a.kind reached in
      let buckets = bucket_bound a.kind (shape_of a.kind) nodes (path_count handed) in
      nodes * NODE_BYTES + buckets * (BUCKET_BYTES + key_bound a.kind) + sum (map (λ child. child buckets handed) a.children)

  abbrev pub node_bound : Agg → ℕ → List Reached → ℕ
  node_bound = fold_agg node_bound_at

-- the roots that an aggregation at the top collects
abbrev pub collected_roots : Search → List PlacedRow → Kind → List Reached
collected_roots search all k = map (λ row. (row, 1)) (if is_global k then roots all else matched_roots all search.query)

-- twice what a task can hold, without regard to the greatest ceiling
abbrev pub task_bound : List FieldKind → Search → List PlacedRow → ℕ
task_bound kinds search all =
    2 * (task_overhead + sum (map (λ a. node_bound kinds all a 1 (collected_roots search all (out-Agg a).kind)) search.aggs))

-- whether a collected row has more combinations than a composite aggregation may have
abbrev pub is_wide_at : Kind → List PlacedRow → Bool
is_wide_at k rows = elim (profile k).form [
  | Form.terms t ↦ false
  | Form.histogram h ↦ false
  | Form.pages sources size after ↦ list_any (λ row. nat_lt greatest_combinations (combination_count sources row)) rows
  | Form.fixed ks ↦ false
  | Form.number o ↦ false
]

abbrev pub has_wide_row : Search → List PlacedRow → Bool
has_wide_row search all = list_any (λ a. is_wide_at (out-Agg a).kind (matched_roots all search.query)) search.aggs

-- the number, unless it is above the greatest ceiling
abbrev pub within_greatest : ℕ → Option ℕ
within_greatest n = if nat_lt greatest_ceiling n then None else Some n

abbrev pub ceiling_by : Bool → List FieldKind → Search → List PlacedRow → Option ℕ
ceiling_by true kinds search all = None
ceiling_by false kinds search all = within_greatest (task_bound kinds search all)

-- the ceiling of a task, one search on one shard; none where it is too wide
abbrev pub ceiling : List FieldKind → Search → List PlacedRow → Option ℕ
ceiling kinds search all = ceiling_by (has_wide_row search all) kinds search all

-- the sum, where all are there
abbrev pub sum_of_all : List (Option ℕ) → Option ℕ
sum_of_all [] = Some 0
sum_of_all (n ∷ ns) = option_and_then (λ first. option_map (λ rest. first + rest) (sum_of_all ns)) n

-- the ceiling of a search over its shards; none where it is too wide
abbrev pub search_ceiling : List FieldKind → Search → List (List PlacedRow) → Option ℕ
search_ceiling kinds search shards = option_and_then within_greatest (sum_of_all (map (ceiling kinds search) shards))
