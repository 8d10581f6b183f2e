-- Terms aggregations (Elasticsearch Reference 8, 'Terms aggregation').
use Rattle.std.specs.Prelude.{ℕ, ◌+◌, ◌*◌, ◌/◌, max, List, [], ◌∷◌, Option, Ok, Bool, true, false, codes, unwrap_or}
use Rattle.serde_json.specs.Data.{Data, Members}
use Rattle.agg_model.specs.declared.limits.TheConstants.{MAX_SIZE}
use Rattle.agg_model.specs.declared.body_refusal.TheConstants.{OUT_OF_RANGE, UNKNOWN_MEMBER, WRONG_TYPE}
use Rattle.agg_model.specs.declared.mapping.Field.{Field}
use Rattle.agg_model.specs.declared.mapping.FieldKind.{FieldKind}
use Rattle.agg_model.specs.declared.mapping.Mapping.{Mapping}
use Rattle.agg_model.specs.declared.query.Probe.{Probe}
use Rattle.agg_model.specs.declared.row.Scalar.{Scalar}
use Rattle.agg_model.specs.declared.aggregation.Kind.{Kind}
use Rattle.agg_model.specs.Options.{terms_kind}
use Rattle.agg_reading.specs.declared.parts.NamedOrder.{NamedOrder}
use Rattle.agg_reading.specs.Reading.{Reading, ◌>>=◌, ◌>>◌, or_refuse}
use Rattle.agg_reading.specs.Json.{object_at, known, optional}
use Rattle.agg_reading.specs.Scalars.{stored}
use Rattle.agg_reading.specs.Numbers.{whole_at, truth_at, choice_at}
use Rattle.agg_reading.specs.Leaves.{field_in, value_at, values_at}
use Rattle.agg_reading.specs.Orders.{orders_at, by_default}

-- the value of a row that has none: for numbers of 64 bits, for dates in their range
unfoldable pub missing_at : FieldKind → List ℕ → Data → Reading Scalar
missing_at kind at d = value_at kind at d >>= λ p. or_refuse OUT_OF_RANGE at (stored kind p)

abbrev pub term_members : List (List ℕ)
term_members =
    codes "collect_mode" ∷ codes "exclude" ∷ codes "execution_hint" ∷ codes "field" ∷ codes "include" ∷ codes "min_doc_count" ∷ codes "missing" ∷ codes "order"
    ∷ codes "shard_size" ∷ codes "show_term_doc_count_error" ∷ codes "size" ∷ []

-- `exclude` and `include`, with the hints that have no effect
unfoldable pub term_lists_in : FieldKind → List ℕ → Members → Reading (Option (List Probe) × Option (List Probe))
term_lists_in kind at ms = do
  optional (choice_at (codes "breadth_first" ∷ codes "depth_first" ∷ [])) (codes "collect_mode") at ms
  exclude ← optional (values_at kind) (codes "exclude") at ms
  optional (choice_at (codes "global_ordinals" ∷ codes "map" ∷ [])) (codes "execution_hint") at ms
  include ← optional (values_at kind) (codes "include") at ms
  Ok (exclude, include)

-- `min_doc_count`, `missing` and `order`
unfoldable pub term_counts_in : FieldKind → List ℕ → Members → Reading (ℕ × Option Scalar × List NamedOrder)
term_counts_in kind at ms = do
  least ← optional (whole_at 1 9223372036854775807) (codes "min_doc_count") at ms
  missing ← optional (missing_at kind) (codes "missing") at ms
  order ← optional orders_at (codes "order") at ms
  Ok (unwrap_or least 1, missing, unwrap_or order (by_default (codes "_count") true ∷ []))

-- one shard answers more terms than are wanted in all, so that few are missed
abbrev pub shard_size_of : ℕ → Option ℕ → ℕ
shard_size_of size said = max size (unwrap_or said (size * 3 / 2 + 10))

-- `shard_size`, `show_term_doc_count_error` and `size`: the size, that of a shard, and whether errors show
unfoldable pub term_sizes_in : List ℕ → Members → Reading (ℕ × ℕ × Bool)
term_sizes_in at ms = do
  shard ← optional (whole_at 1 MAX_SIZE) (codes "shard_size") at ms
  show ← optional truth_at (codes "show_term_doc_count_error") at ms
  size ← optional (whole_at 1 MAX_SIZE) (codes "size") at ms
  Ok (unwrap_or size 10, shard_size_of (unwrap_or size 10) shard, unwrap_or show false)

-- the members beside `field`
unfoldable pub terms_in : ℕ × Field → List ℕ → Members → Reading (Kind × List NamedOrder)
terms_in (place, field) at ms = do
  (exclude, include) ← term_lists_in field.kind at ms
  (least, missing, order) ← term_counts_in field.kind at ms
  (size, shard_size, show) ← term_sizes_in at ms
  Ok (
    terms_kind (record {
      field = place;
      size = size;
      shard_size = shard_size;
      min_doc_count = least;
      order = [];
      include = include;
      exclude = unwrap_or exclude [];
      missing = missing;
      show_error = show;
    }),
    order,
  )

unfoldable pub terms_at : Mapping → List ℕ → Data → Reading (Kind × List NamedOrder)
terms_at m at d = do
  ms ← object_at WRONG_TYPE at d
  known UNKNOWN_MEMBER term_members at ms
  f ← field_in m at ms
  terms_in f at ms
