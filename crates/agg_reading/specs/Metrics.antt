-- Metrics and the kinds of one bucket (Elasticsearch Reference 8, 'Metrics aggregations', 'Missing aggregation', 'Global aggregation', 'Nested aggregation', 'Reverse nested aggregation').
use Rattle.std.specs.Prelude.{ℕ, ◌+◌, ◌==◌, List, [], ◌∷◌, ◌++◌, Option, Some, None, Ok, if◌then◌else◌, codes}
use Rattle.serde_json.specs.Data.{Data, Members}
use Rattle.serde_json.specs.Find.{get_member}
use Rattle.agg_model.specs.declared.body_refusal.TheConstants.{NO_SUCH_FIELD, NO_SUCH_PATH, UNKNOWN_MEMBER, WRONG_TYPE}
use Rattle.agg_model.specs.declared.mapping.Field.{Field}
use Rattle.agg_model.specs.declared.mapping.Mapping.{Mapping}
use Rattle.agg_model.specs.declared.row.Scalar.{Scalar}
use Rattle.agg_model.specs.declared.aggregation.Kind.{Kind}
use Rattle.agg_model.specs.declared.aggregation.Kind.TheVariants as kind
use Rattle.agg_reading.specs.Reading.{Reading, ◌>>=◌, ◌>>◌, refuse, or_refuse}
use Rattle.agg_reading.specs.Pointer.{member_step}
use Rattle.agg_reading.specs.Json.{object_at, text_at, known, optional}
use Rattle.agg_reading.specs.Fields.{nested_from}
use Rattle.agg_model.specs.Contexts.{encloses}
use Rattle.agg_reading.specs.Leaves.{field_in}
use Rattle.agg_reading.specs.Query.{path_in}
use Rattle.agg_reading.specs.Terms.{missing_at}
use Rattle.agg_reading.specs.Histogram.{whole_field_in}
use Rattle.agg_model.specs.FieldKinds.{is_number_kind}

-- a field, and the value of rows without one
abbrev pub Metered : Type 0
Metered = ℕ × Option Scalar

unfoldable pub metered_in : ℕ × Field → List ℕ → Members → Reading Metered
metered_in f at ms = optional (missing_at f.1.kind) (codes "missing") at ms >>= λ missing. Ok (f.0, missing)

-- a metric over whole numbers
unfoldable pub number_metric_at : Mapping → List ℕ → Data → Reading Metered
number_metric_at m at d = do
  ms ← object_at WRONG_TYPE at d
  known UNKNOWN_MEMBER (codes "field" ∷ codes "missing" ∷ []) at ms
  f ← whole_field_in m at ms
  metered_in f at ms

-- the member `field`, which names a field of whole numbers or of dates
unfoldable pub number_field_in : Mapping → List ℕ → Members → Reading (ℕ × Field)
number_field_in m at ms = field_in m at ms >>= λ f. if is_number_kind f.1.kind then Ok f else refuse NO_SUCH_FIELD (at ++ member_step (codes "field"))

-- the least or the greatest value, of whole numbers or of dates
unfoldable pub extreme_at : Mapping → List ℕ → Data → Reading Metered
extreme_at m at d = do
  ms ← object_at WRONG_TYPE at d
  known UNKNOWN_MEMBER (codes "field" ∷ codes "missing" ∷ []) at ms
  f ← number_field_in m at ms
  metered_in f at ms

-- a metric over any field
unfoldable pub any_metric_at : Mapping → List ℕ → Data → Reading Metered
any_metric_at m at d = do
  ms ← object_at WRONG_TYPE at d
  known UNKNOWN_MEMBER (codes "field" ∷ codes "missing" ∷ []) at ms
  f ← field_in m at ms
  metered_in f at ms

unfoldable pub missing_kind_at : Mapping → List ℕ → Data → Reading Kind
missing_kind_at m at d = do
  ms ← object_at WRONG_TYPE at d
  known UNKNOWN_MEMBER (codes "field" ∷ []) at ms
  f ← field_in m at ms
  Ok (kind.Missing f.0)

unfoldable pub global_at : List ℕ → Data → Reading Kind
global_at at d = do
  ms ← object_at WRONG_TYPE at d
  known UNKNOWN_MEMBER [] at ms
  Ok kind.Global

-- the context of a nested path strictly beneath
unfoldable pub nested_context_at : Mapping → ℕ → List ℕ → Data → Reading ℕ
nested_context_at m context at d = do
  ms ← object_at WRONG_TYPE at d
  known UNKNOWN_MEMBER (codes "path" ∷ []) at ms
  p ← path_in m context at ms
  Ok (p.0 + 1)

-- a nested path that strictly encloses the context
unfoldable pub enclosing_at : Mapping → ℕ → List ℕ → List ℕ → Reading ℕ
enclosing_at m context at path =
    if encloses m.nested path context then (or_refuse NO_SUCH_PATH at (nested_from 0 m.nested path) >>= λ p. Ok (p.0 + 1)) else refuse NO_SUCH_PATH at

-- without a path the root, which encloses every other context
abbrev pub outer_of : Mapping → ℕ → List ℕ → Option Data → Reading ℕ
outer_of m context at None = if context == 0 then refuse NO_SUCH_PATH at else Ok 0
outer_of m context at (Some d) = text_at WRONG_TYPE (at ++ member_step (codes "path")) d >>= enclosing_at m context (at ++ member_step (codes "path"))

unfoldable pub outer_context_at : Mapping → ℕ → List ℕ → Data → Reading ℕ
outer_context_at m context at d = do
  ms ← object_at WRONG_TYPE at d
  known UNKNOWN_MEMBER (codes "path" ∷ []) at ms
  outer_of m context at (get_member (codes "path") ms)
