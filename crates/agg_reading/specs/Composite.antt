-- Composite aggregations (Elasticsearch Reference 8, 'Composite aggregation').
use Rattle.std.specs.Prelude.{ℕ, ◌+◌, List, [], ◌∷◌, ◌++◌, Option, Some, None, Ok, false, nat_le, if◌then◌else◌, ⊤, codes, unwrap_or}
use Rattle.std.specs.Str.{bytes_eq}
use Rattle.serde_json.specs.Data.{Data, object, Items, no_items, item}
use Rattle.agg_model.specs.declared.limits.TheConstants.{MAX_SOURCES}
use Rattle.agg_model.specs.declared.body_refusal.TheConstants.{LIMIT_EXCEEDED, MISSING_MEMBER, NOT_ONE_MEMBER, OUT_OF_RANGE, UNKNOWN_KIND, UNKNOWN_MEMBER, WRONG_TYPE}
use Rattle.agg_model.specs.declared.mapping.FieldKind.{FieldKind}
use Rattle.agg_model.specs.declared.mapping.Mapping.{Mapping}
use Rattle.agg_model.specs.declared.aggregation.CompositeSource.{CompositeSource}
use Rattle.agg_reading.specs.declared.names.SourceName.{SourceName}
use Rattle.agg_reading.specs.declared.names.SourceName.TheVariants as name
use Rattle.agg_reading.specs.Reading.{Reading, ◌>>=◌, ◌>>◌, refuse, or_refuse}
use Rattle.agg_reading.specs.Pointer.{member_step, item_step}
use Rattle.agg_reading.specs.Json.{object_at, list_at, known, optional, sole, sole_at}
use Rattle.agg_reading.specs.Numbers.{whole_at, truth_at}
use Rattle.agg_reading.specs.Leaves.{field_in}
use Rattle.agg_reading.specs.Orders.{direction_at}
use Rattle.agg_reading.specs.Histogram.{whole_field_in}
use Rattle.agg_reading.specs.Filters.{name_at}

-- a source, and the kind of its field
abbrev pub Source : Type 0
Source = CompositeSource × FieldKind

unfoldable pub source_named : List ℕ → Option SourceName
source_named s =
    if bytes_eq s (codes "histogram") then Some name.Histogram else (
    if bytes_eq s (codes "terms") then Some name.Terms else None)

unfoldable pub terms_source_at : Mapping → List ℕ → List ℕ → Data → Reading Source
terms_source_at m name at d = do
  ms ← object_at WRONG_TYPE at d
  known UNKNOWN_MEMBER (codes "field" ∷ codes "missing_bucket" ∷ codes "order" ∷ []) at ms
  f ← field_in m at ms
  missing ← optional truth_at (codes "missing_bucket") at ms
  descending ← optional direction_at (codes "order") at ms
  Ok (record { name = name; field = f.0; interval = None; descending = unwrap_or descending false; missing_bucket = unwrap_or missing false }, f.1.kind)

unfoldable pub histogram_source_at : Mapping → List ℕ → List ℕ → Data → Reading Source
histogram_source_at m name at d = do
  ms ← object_at WRONG_TYPE at d
  known UNKNOWN_MEMBER (codes "field" ∷ codes "interval" ∷ codes "missing_bucket" ∷ codes "order" ∷ []) at ms
  f ← whole_field_in m at ms
  said ← optional (whole_at 1 9223372036854775807) (codes "interval") at ms
  missing ← optional truth_at (codes "missing_bucket") at ms
  descending ← optional direction_at (codes "order") at ms
  interval ← or_refuse MISSING_MEMBER at said
  Ok (record { name = name; field = f.0; interval = Some interval; descending = unwrap_or descending false; missing_bucket = unwrap_or missing false }, f.1.kind)

abbrev pub source_by : Option SourceName → Mapping → List ℕ → List ℕ → Data → Reading Source
source_by None m name at d = refuse UNKNOWN_KIND at
source_by (Some name.Terms) m name at d = terms_source_at m name at d
source_by (Some name.Histogram) m name at d = histogram_source_at m name at d

-- the object under a source's name
unfoldable pub source_at : Mapping → List ℕ → List ℕ → Data → Reading Source
source_at m name at d = do
  ms ← object_at WRONG_TYPE at d
  said ← sole_at NOT_ONE_MEMBER at ms
  source_by (source_named said.0) m name (at ++ member_step said.0) said.1

-- the name of a source that has one
abbrev pub source_name_at : List ℕ → Option (List ℕ × Data) → Reading ⊤
source_name_at at (Some said) = name_at (at ++ member_step said.0) said.0
source_name_at at None = Ok tt

abbrev pub sole_of : Data → Option (List ℕ × Data)
sole_of (object ms) = sole ms
sole_of _ = None

unfoldable pub named_source_at : Mapping → List ℕ → Data → Reading Source
named_source_at m at d = do
  ms ← object_at WRONG_TYPE at d
  said ← sole_at NOT_ONE_MEMBER at ms
  source_at m said.0 (at ++ member_step said.0) said.1

-- the sources of a list from this place on, after those before; at most MAX_SOURCES
unfoldable pub sources_from : Mapping → List ℕ → ℕ → List Source → Items → Reading (List Source)
sources_from m at n done no_items = Ok done
sources_from m at n done (item d ds) = do
  source_name_at (at ++ item_step n) (sole_of d)
  if nat_le MAX_SOURCES n then refuse LIMIT_EXCEEDED (at ++ item_step n) else (do
    s ← named_source_at m (at ++ item_step n) d
    sources_from m at (n + 1) (done ++ s ∷ []) ds)

abbrev pub some_sources : Mapping → List ℕ → Items → Reading (List Source)
some_sources m at no_items = refuse OUT_OF_RANGE at
some_sources m at ds = sources_from m at 0 [] ds

unfoldable pub sources_at : Mapping → List ℕ → Data → Reading (List Source)
sources_at m at d = list_at WRONG_TYPE at d >>= some_sources m at
