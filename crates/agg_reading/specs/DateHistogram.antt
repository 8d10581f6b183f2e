-- Date histograms (Elasticsearch Reference 8, 'Date histogram aggregation': `calendar_interval`, `fixed_interval`, `time_zone`).
use Rattle.std.specs.Prelude.{ℕ, ◌*◌, ◌==◌, nat_le, ℤ, pos, Bool, false, not, ◌&&◌, if◌then◌else◌, List, [], ◌∷◌, ◌++◌, length, take, drop, Option, Some, None, option_map, unwrap_or, Ok, codes}
use Rattle.std.specs.List.{prefix_len}
use Rattle.std.specs.Char.{is_ascii_digit}
use Rattle.std.specs.Str.Parse.{digits_value}
use Rattle.serde_json.specs.Data.{Data, null, boolean, number, string, array, object, Members}
use Rattle.date_spec.specs.declared.period.Period.{Period}
use Rattle.date_spec.specs.declared.period.Period.TheVariants.{Fixed, Week, Month, Quarter, Year}
use Rattle.date_spec.specs.DateTexts.{ahead_of}
use Rattle.date_spec.specs.Instants.{is_in_range}
use Rattle.agg_model.specs.declared.body_refusal.TheConstants.{MISSING_MEMBER, NO_SUCH_FIELD, OUT_OF_RANGE, UNKNOWN_MEMBER, WRONG_TYPE}
use Rattle.agg_model.specs.declared.mapping.Field.{Field}
use Rattle.agg_model.specs.declared.mapping.FieldKind.{FieldKind}
use Rattle.agg_model.specs.declared.mapping.Mapping.{Mapping}
use Rattle.agg_model.specs.declared.row.Scalar.{Scalar}
use Rattle.agg_model.specs.declared.aggregation.Bounds.{Bounds}
use Rattle.agg_model.specs.declared.aggregation.Spacing.TheVariants.{Dates}
use Rattle.agg_model.specs.declared.aggregation.Kind.{Kind}
use Rattle.agg_model.specs.Options.{histogram_kind}
use Rattle.agg_model.specs.FieldKinds.{is_date_kind}
use Rattle.agg_reading.specs.declared.parts.NamedOrder.{NamedOrder}
use Rattle.agg_reading.specs.Reading.{Reading, ◌>>=◌, ◌>>◌, refuse, or_refuse}
use Rattle.agg_reading.specs.Pointer.{member_step}
use Rattle.agg_reading.specs.Json.{object_at, text_at, known, optional, is_among}
use Rattle.agg_reading.specs.Scalars.{instant}
use Rattle.agg_reading.specs.Numbers.{whole_at, truth_at}
use Rattle.agg_reading.specs.Leaves.{field_in}
use Rattle.agg_reading.specs.Orders.{orders_at, by_default}
use Rattle.agg_reading.specs.Terms.{missing_at}
use Rattle.agg_reading.specs.Histogram.{bounds_at, unbounded, bounds_rule}

-- the member `field`, which names a field of dates
unfoldable pub date_field_in : Mapping → List ℕ → Members → Reading (ℕ × Field)
date_field_in m at ms = field_in m at ms >>= λ f. if is_date_kind f.1.kind then Ok f else refuse NO_SUCH_FIELD (at ++ member_step (codes "field"))

abbrev pub dated : List ℕ → Option ℤ → Reading ℤ
dated at None = refuse OUT_OF_RANGE at
dated at (Some n) = if is_in_range n then Ok n else refuse OUT_OF_RANGE at

-- an instant in the range of dates, as a number or a text
unfoldable pub instant_at : List ℕ → Data → Reading ℤ
instant_at at null = refuse WRONG_TYPE at
instant_at at (boolean b) = refuse WRONG_TYPE at
instant_at at (number n) = dated at (instant (number n))
instant_at at (string s) = dated at (instant (string s))
instant_at at (array ds) = refuse WRONG_TYPE at
instant_at at (object ms) = refuse WRONG_TYPE at

-- a period of the calendar by one of its two names
unfoldable pub calendar_period : List ℕ → Option Period
calendar_period s =
    if is_among (codes "minute" ∷ codes "1m" ∷ []) s then Some (Fixed 60_000) else (
    if is_among (codes "hour" ∷ codes "1h" ∷ []) s then Some (Fixed 3_600_000) else (
    if is_among (codes "day" ∷ codes "1d" ∷ []) s then Some (Fixed 86_400_000) else (
    if is_among (codes "week" ∷ codes "1w" ∷ []) s then Some Week else (
    if is_among (codes "month" ∷ codes "1M" ∷ []) s then Some Month else (
    if is_among (codes "quarter" ∷ codes "1q" ∷ []) s then Some Quarter else (
    if is_among (codes "year" ∷ codes "1y" ∷ []) s then Some Year else None))))))

-- the milliseconds of a unit
unfoldable pub unit_millis : List ℕ → Option ℕ
unit_millis s =
    if is_among (codes "ms" ∷ []) s then Some 1 else (
    if is_among (codes "s" ∷ []) s then Some 1000 else (
    if is_among (codes "m" ∷ []) s then Some 60_000 else (
    if is_among (codes "h" ∷ []) s then Some 3_600_000 else (
    if is_among (codes "d" ∷ []) s then Some 86_400_000 else None))))

abbrev pub greatest_amount : ℕ
greatest_amount = 2_147_483_647

-- digits of an amount from 1 on, with no zero in front
unfoldable pub is_amount : List ℕ → Bool
is_amount [] = false
is_amount (first ∷ rest) = not (first == 48) && nat_le (digits_value 10 (first ∷ rest)) greatest_amount

-- so many of a unit
unfoldable pub fixed_of : List ℕ → List ℕ → Option Period
fixed_of digits unit = if is_amount digits then option_map (λ millis. Fixed (digits_value 10 digits * millis)) (unit_millis unit) else None

-- an amount with its unit behind it
unfoldable pub fixed_period : List ℕ → Option Period
fixed_period s = fixed_of (take (prefix_len is_ascii_digit s) s) (drop (prefix_len is_ascii_digit s) s)

-- how many milliseconds a zone is ahead of UTC: `UTC`, or an offset as dates have it, of which `+hh:mm` and `-hh:mm` alone have six characters
unfoldable pub zone_of : List ℕ → Option ℤ
zone_of s = if is_among (codes "UTC" ∷ codes "Z" ∷ []) s then Some (pos 0) else (if length s == 6 then ahead_of s else None)

-- a text that means something, or the refusal of a text that does not
unfoldable pub said_at : {A : Type 0} → (List ℕ → Option A) → List ℕ → Data → Reading A
said_at meaning at d = text_at WRONG_TYPE at d >>= λ s. or_refuse OUT_OF_RANGE at (meaning s)

abbrev pub date_histogram_members : List (List ℕ)
date_histogram_members =
    codes "calendar_interval" ∷ codes "extended_bounds" ∷ codes "field" ∷ codes "fixed_interval" ∷ codes "hard_bounds" ∷ codes "keyed" ∷ codes "min_doc_count"
    ∷ codes "missing" ∷ codes "order" ∷ codes "time_zone" ∷ []

-- `calendar_interval`, `extended_bounds`, `fixed_interval`, `hard_bounds` and `keyed`
unfoldable pub date_ranges_in : List ℕ → Members → Reading (Option Period × Option Period × Bounds × Bounds × Bool)
date_ranges_in at ms = do
  calendar ← optional (said_at calendar_period) (codes "calendar_interval") at ms
  extended ← optional (bounds_at instant_at) (codes "extended_bounds") at ms
  fixed ← optional (said_at fixed_period) (codes "fixed_interval") at ms
  hard ← optional (bounds_at instant_at) (codes "hard_bounds") at ms
  keyed ← optional truth_at (codes "keyed") at ms
  Ok (calendar, fixed, unwrap_or extended unbounded, unwrap_or hard unbounded, unwrap_or keyed false)

-- `min_doc_count`, `missing`, `order` and `time_zone`
unfoldable pub date_counts_in : FieldKind → List ℕ → Members → Reading (ℕ × Option Scalar × List NamedOrder × ℤ)
date_counts_in kind at ms = do
  least ← optional (whole_at 0 9223372036854775807) (codes "min_doc_count") at ms
  missing ← optional (missing_at kind) (codes "missing") at ms
  order ← optional orders_at (codes "order") at ms
  zone ← optional (said_at zone_of) (codes "time_zone") at ms
  Ok (unwrap_or least 0, missing, unwrap_or order (by_default (codes "_key") false ∷ []), unwrap_or zone (pos 0))

-- exactly one of the two intervals
abbrev pub period_in : List ℕ → Option Period → Option Period → Reading Period
period_in at None None = refuse MISSING_MEMBER at
period_in at (Some period) None = Ok period
period_in at None (Some period) = Ok period
period_in at (Some period) (Some other) = refuse OUT_OF_RANGE (at ++ member_step (codes "fixed_interval"))

-- the members beside `field`
unfoldable pub date_histogram_in : ℕ × Field → List ℕ → Members → Reading (Kind × List NamedOrder)
date_histogram_in (place, field) at ms = do
  (calendar, fixed, extended, hard, keyed) ← date_ranges_in at ms
  (least, missing, order, zone) ← date_counts_in field.kind at ms
  period ← period_in at calendar fixed
  bounds_rule at extended hard
  Ok (
    histogram_kind (record {
      field = place;
      spacing = Dates period zone;
      min_doc_count = least;
      extended = extended;
      hard = hard;
      keyed = keyed;
      order = [];
      missing = missing;
    }),
    order,
  )

unfoldable pub date_histogram_at : Mapping → List ℕ → Data → Reading (Kind × List NamedOrder)
date_histogram_at m at d = do
  ms ← object_at WRONG_TYPE at d
  known UNKNOWN_MEMBER date_histogram_members at ms
  f ← date_field_in m at ms
  date_histogram_in f at ms
