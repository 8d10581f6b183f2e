-- Histograms (Elasticsearch Reference 8, 'Histogram aggregation').
use Rattle.std.specs.Prelude.{ℕ, ℤ, List, [], ◌∷◌, ◌++◌, Option, None, Ok, Bool, false, nat_lt, if◌then◌else◌, ⊤, codes, unwrap_or}
use Rattle.serde_json.specs.Data.{Data, Members}
use Rattle.agg_model.specs.declared.body_refusal.TheConstants.{MISSING_MEMBER, NO_SUCH_FIELD, OUT_OF_RANGE, UNKNOWN_MEMBER, WRONG_TYPE}
use Rattle.agg_model.specs.declared.mapping.Field.{Field}
use Rattle.agg_model.specs.declared.mapping.FieldKind.{FieldKind}
use Rattle.agg_model.specs.declared.mapping.Mapping.{Mapping}
use Rattle.agg_model.specs.declared.row.Scalar.{Scalar}
use Rattle.agg_model.specs.declared.aggregation.Bounds.{Bounds}
use Rattle.agg_model.specs.declared.aggregation.Kind.{Kind}
use Rattle.agg_model.specs.declared.aggregation.Spacing.TheVariants.{Numbers}
use Rattle.agg_model.specs.Options.{histogram_kind}
use Rattle.agg_model.specs.BoundsOrder.{is_at_most, lies_within}
use Rattle.agg_reading.specs.declared.parts.NamedOrder.{NamedOrder}
use Rattle.agg_reading.specs.Reading.{Reading, ◌>>=◌, ◌>>◌, refuse, or_refuse}
use Rattle.agg_reading.specs.Pointer.{member_step}
use Rattle.agg_reading.specs.Json.{object_at, known, optional}
use Rattle.agg_model.specs.FieldKinds.{is_whole_kind}
use Rattle.agg_reading.specs.Numbers.{whole_at, signed_at, truth_at}
use Rattle.agg_reading.specs.Leaves.{field_in}
use Rattle.agg_reading.specs.Orders.{orders_at, by_default}
use Rattle.agg_reading.specs.Terms.{missing_at}

-- the member `field`, which names a field of whole numbers
unfoldable pub whole_field_in : Mapping → List ℕ → Members → Reading (ℕ × Field)
whole_field_in m at ms = field_in m at ms >>= λ f. if is_whole_kind f.1.kind then Ok f else refuse NO_SUCH_FIELD (at ++ member_step (codes "field"))

abbrev pub ordered_bounds : List ℕ → Option ℤ → Option ℤ → Reading Bounds
ordered_bounds at least most = if is_at_most least most then Ok (record { min = least; max = most }) else refuse OUT_OF_RANGE at

-- bounds, each of which is read by f
unfoldable pub bounds_at : (List ℕ → Data → Reading ℤ) → List ℕ → Data → Reading Bounds
bounds_at f at d = do
  ms ← object_at WRONG_TYPE at d
  known UNKNOWN_MEMBER (codes "max" ∷ codes "min" ∷ []) at ms
  most ← optional f (codes "max") at ms
  least ← optional f (codes "min") at ms
  ordered_bounds at least most

abbrev pub unbounded : Bounds
unbounded = record { min = None; max = None }

abbrev pub histogram_members : List (List ℕ)
histogram_members =
    codes "extended_bounds" ∷ codes "field" ∷ codes "hard_bounds" ∷ codes "interval" ∷ codes "keyed" ∷ codes "min_doc_count" ∷ codes "missing" ∷ codes "offset" ∷ codes "order" ∷ []

-- `extended_bounds`, `hard_bounds`, `interval` and `keyed`
unfoldable pub histogram_ranges_in : List ℕ → Members → Reading (Bounds × Bounds × Option ℕ × Bool)
histogram_ranges_in at ms = do
  extended ← optional (bounds_at signed_at) (codes "extended_bounds") at ms
  hard ← optional (bounds_at signed_at) (codes "hard_bounds") at ms
  interval ← optional (whole_at 1 9223372036854775807) (codes "interval") at ms
  keyed ← optional truth_at (codes "keyed") at ms
  Ok (unwrap_or extended unbounded, unwrap_or hard unbounded, interval, unwrap_or keyed false)

-- `min_doc_count`, `missing`, `offset` and `order`
unfoldable pub histogram_counts_in : FieldKind → List ℕ → Members → Reading (ℕ × Option Scalar × ℕ × List NamedOrder)
histogram_counts_in kind at ms = do
  least ← optional (whole_at 0 9223372036854775807) (codes "min_doc_count") at ms
  missing ← optional (missing_at kind) (codes "missing") at ms
  offset ← optional (whole_at 0 18446744073709551615) (codes "offset") at ms
  order ← optional orders_at (codes "order") at ms
  Ok (unwrap_or least 0, missing, unwrap_or offset 0, unwrap_or order (by_default (codes "_key") false ∷ []))

abbrev pub bounds_rule : List ℕ → Bounds → Bounds → Reading ⊤
bounds_rule at extended hard = if lies_within extended hard then Ok tt else refuse OUT_OF_RANGE (at ++ member_step (codes "extended_bounds"))

-- the rules between members
unfoldable pub histogram_rules : List ℕ → ℕ → ℕ → Bounds → Bounds → Reading ⊤
histogram_rules at interval offset extended hard =
    if nat_lt offset interval then bounds_rule at extended hard else refuse OUT_OF_RANGE (at ++ member_step (codes "offset"))

-- the members beside `field`
unfoldable pub histogram_in : ℕ × Field → List ℕ → Members → Reading (Kind × List NamedOrder)
histogram_in (place, field) at ms = do
  (extended, hard, said, keyed) ← histogram_ranges_in at ms
  (least, missing, offset, order) ← histogram_counts_in field.kind at ms
  interval ← or_refuse MISSING_MEMBER at said
  histogram_rules at interval offset extended hard
  Ok (
    histogram_kind (record {
      field = place;
      spacing = Numbers interval offset;
      min_doc_count = least;
      extended = extended;
      hard = hard;
      keyed = keyed;
      order = [];
      missing = missing;
    }),
    order,
  )

unfoldable pub histogram_at : Mapping → List ℕ → Data → Reading (Kind × List NamedOrder)
histogram_at m at d = do
  ms ← object_at WRONG_TYPE at d
  known UNKNOWN_MEMBER histogram_members at ms
  f ← whole_field_in m at ms
  histogram_in f at ms
