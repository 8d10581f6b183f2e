-- The walk of a document (Elasticsearch Reference 8, 'Mapping', 'Nested field type', 'dynamic').
-- Refusals have the path of the member.
use Rattle.std.specs.Prelude.{ℕ, ◌+◌, ℤ, List, [], ◌∷◌, ◌++◌, length, Option, Some, None, Result, Ok, Err, Bool, false, not, ◌&&◌, ◌||◌, ◌==◌, if◌then◌else◌, nat_le, nat_lt}
use Rattle.std.specs.List.{list_any}
use Rattle.std.specs.Option.{option_map_or}
use Rattle.std.specs.Str.{bytes_eq}
use Rattle.serde_json.specs.Find.{as_integer}
use Rattle.serde_json.specs.Data.{Data, null, boolean, number, string, array, object, Items, no_items, item, Members, no_members, member}
use Rattle.date_spec.specs.declared.fault.DateFault.{DateFault}
use Rattle.date_spec.specs.declared.fault.DateFault.TheVariants.{Malformed, OutOfRange}
use Rattle.date_spec.specs.DateTexts.{read_date}
use Rattle.agg_model.specs.declared.limits.TheConstants.{MAX_FIELD_VALUES, MAX_KEYWORD, MAX_NESTED_OBJECTS}
use Rattle.agg_model.specs.declared.item_refusal.TheConstants.{KEYWORD_TOO_LONG, NUMBER_OUT_OF_RANGE, SOURCE_NOT_OBJECT, STRICT_MAPPING, TOO_MANY_FIELD_VALUES, TOO_MANY_NESTED_OBJECTS, WRONG_FIELD_TYPE}
use Rattle.agg_model.specs.declared.mapping.FieldKind.{FieldKind}
use Rattle.agg_model.specs.declared.mapping.FieldKind.TheVariants.{Date}
use Rattle.agg_model.specs.declared.mapping.Field.{Field}
use Rattle.agg_model.specs.declared.mapping.NestedPath.{NestedPath}
use Rattle.agg_model.specs.declared.mapping.Mapping.{Mapping}
use Rattle.agg_model.specs.declared.row.Scalar.{Scalar}
use Rattle.agg_model.specs.declared.row.Scalar.TheVariants.{Whole, Word, Flag}
use Rattle.agg_model.specs.declared.row.Row.{Row}
use Rattle.agg_reading.specs.declared.parts.Draft.{Draft}
use Rattle.agg_reading.specs.declared.parts.Role.{Role}
use Rattle.agg_reading.specs.declared.parts.Role.TheVariants as role
use Rattle.agg_reading.specs.Reading.{Reading, ◌>>=◌, refuse, or_refuse}
use Rattle.agg_reading.specs.Json.{reading, object_at, is_among}
use Rattle.agg_reading.specs.Scalars.{whole, word, flag, is_longer}
use Rattle.agg_model.specs.FieldKinds.{ValueKind, value_kind, fits_kind}
use Rattle.agg_reading.specs.Fields.{field_from, nested_from}
use Rattle.agg_model.specs.Contexts.{is_beneath, is_in_context}
use Rattle.agg_reading.specs.Rows.{finished, empty_draft, count_in, with_value, with_row}

-- what a path is to the rows of a context

-- the path is or lies beneath a nested path that is strictly beneath the context
unfoldable pub leads_deeper : Mapping → ℕ → List ℕ → Bool
leads_deeper m context path = list_any (λ p. (bytes_eq p.path path || is_beneath p.path path) && is_in_context m.nested context p.path) m.nested

abbrev pub nested_role : ℕ → Option (ℕ × NestedPath) → Role
nested_role context None = role.Unmapped
nested_role context (Some p) = if p.1.parent == context then role.Nested p.0 else role.Unmapped

abbrev pub inner_role : Mapping → ℕ → List ℕ → Role
inner_role m context path = if is_among m.objects path && not (leads_deeper m context path) then role.Plain else nested_role context (nested_from 0 m.nested path)

abbrev pub field_role : Mapping → ℕ → List ℕ → Option (ℕ × Field) → Role
field_role m context path None = inner_role m context path
field_role m context path (Some f) = if f.1.context == context then role.Leaf f.0 f.1.kind f.1.ignore_above else inner_role m context path

unfoldable pub role_of : Mapping → ℕ → List ℕ → Role
role_of m context path = field_role m context path (field_from 0 m.fields path)

-- the value of a field; none where `ignore_above` leaves it out

abbrev pub number_value : FieldKind → List ℕ → Option ℤ → Reading (Option Scalar)
number_value kind path None = refuse WRONG_FIELD_TYPE path
number_value kind path (Some z) = if fits_kind kind z then Ok (Some (Whole z)) else refuse NUMBER_OUT_OF_RANGE path

abbrev pub is_ignored : Option ℕ → List ℕ → Bool
is_ignored above w = option_map_or (is_longer w) above false

abbrev pub word_value : Option ℕ → List ℕ → Option (List ℕ) → Reading (Option Scalar)
word_value above path None = refuse WRONG_FIELD_TYPE path
word_value above path (Some w) = if is_ignored above w then Ok None else (if nat_lt MAX_KEYWORD (length w) then refuse KEYWORD_TOO_LONG path else Ok (Some (Word w)))

-- the empty text counts as false
abbrev pub document_flag : Data → Option Bool
document_flag (string []) = Some false
document_flag d = flag d

abbrev pub instant_value : List ℕ → Result ℤ DateFault → Reading (Option Scalar)
instant_value path (Ok instant) = Ok (Some (Whole instant))
instant_value path (Err Malformed) = refuse WRONG_FIELD_TYPE path
instant_value path (Err OutOfRange) = refuse NUMBER_OUT_OF_RANGE path

-- a date: a whole number of milliseconds, or a text that names an instant ('Date field type')
abbrev pub date_value : List ℕ → Data → Reading (Option Scalar)
date_value path (number n) = number_value Date path (as_integer n)
date_value path (string text) = instant_value path (read_date text)
date_value path _ = refuse WRONG_FIELD_TYPE path

unfoldable pub scalar_at : FieldKind → Option ℕ → List ℕ → Data → Reading (Option Scalar)
scalar_at kind above path d = elim (value_kind kind) [
  | ValueKind.wholes half ↦ number_value kind path (whole d)
  | ValueKind.words ↦ word_value above path (word d)
  | ValueKind.flags ↦ or_refuse WRONG_FIELD_TYPE path (document_flag d) >>= λ b. Ok (Some (Flag b))
  | ValueKind.dates ↦ date_value path d
]

-- the row that is walked, and how many nested objects of the document were met
abbrev pub State : Type 0
State = Draft × ℕ

-- at most MAX_FIELD_VALUES values of a field in a row
unfoldable pub with_scalar : ℕ → List ℕ → State → Option Scalar → Reading State
with_scalar field path s None = Ok s
with_scalar field path s (Some v) =
    if nat_le MAX_FIELD_VALUES (count_in field s.0.values) then refuse TOO_MANY_FIELD_VALUES path
    else Ok (record { values = with_value field v s.0.values; children = s.0.children }, s.1)

-- a value that is neither null nor a list nor an object
unfoldable pub leaf_at : Role → List ℕ → State → Data → Reading State
leaf_at (role.Leaf field kind above) path s d = scalar_at kind above path d >>= with_scalar field path s
leaf_at role.Plain path s d = refuse WRONG_FIELD_TYPE path
leaf_at (role.Nested p) path s d = refuse WRONG_FIELD_TYPE path
leaf_at role.Unmapped path s d = Ok s

-- the row around a nested object, after that was walked
unfoldable pub around : ℕ → State → State → Reading State
around p s inner = Ok (record { values = s.0.values; children = with_row p (finished inner.0) s.0.children }, inner.1)

-- An object, by the role of its path: `inner` walks it as part of its row, `nested` as a row of its own. At most MAX_NESTED_OBJECTS nested objects in a document.
abbrev pub object_by : Role → List ℕ → State → Reading State → (ℕ → Reading State) → Reading State
object_by (role.Leaf field kind above) path s inner nested = refuse WRONG_FIELD_TYPE path
object_by role.Plain path s inner nested = inner
object_by (role.Nested p) path s inner nested = if nat_le MAX_NESTED_OBJECTS s.1 then refuse TOO_MANY_NESTED_OBJECTS path else nested (p + 1) >>= around p s
object_by role.Unmapped path s inner nested = Ok s

-- what a member answers, where its value answers `mapped`: an unmapped one is not looked at
abbrev pub chosen : Mapping → Role → List ℕ → State → Reading State → Reading State
chosen m (role.Leaf field kind above) path s mapped = mapped
chosen m role.Plain path s mapped = mapped
chosen m (role.Nested p) path s mapped = mapped
chosen m role.Unmapped path s mapped = if m.strict then refuse STRICT_MAPPING path else Ok s

abbrev mutual
  pub value_at : Mapping → Role → ℕ → List ℕ → State → Data → Reading State
  value_at m r context path s null = Ok s
  value_at m r context path s (boolean b) = leaf_at r path s (boolean b)
  value_at m r context path s (number n) = leaf_at r path s (number n)
  value_at m r context path s (string t) = leaf_at r path s (string t)
  value_at m r context path s (array ds) = items_at m r context path s ds
  value_at m r context path s (object ms) =
      object_by r path s (members_at m context (path ++ 46 ∷ []) s ms) (λ within. members_at m within (path ++ 46 ∷ []) (empty_draft, s.1 + 1) ms)

  -- a list stands for its elements in order
  pub items_at : Mapping → Role → ℕ → List ℕ → State → Items → Reading State
  items_at m r context path s no_items = Ok s
  items_at m r context path s (item d ds) = value_at m r context path s d >>= λ t. items_at m r context path t ds

  -- front : the path of the object and a dot, or nothing at the root
  pub members_at : Mapping → ℕ → List ℕ → State → Members → Reading State
  members_at m context front s no_members = Ok s
  members_at m context front s (member k d ms) =
      chosen m (role_of m context (front ++ k)) (front ++ k) s (value_at m (role_of m context (front ++ k)) context (front ++ k) s d) >>= λ t. members_at m context front t ms

-- one member, by its path
abbrev pub member_at : Mapping → ℕ → List ℕ → State → Data → Reading State
member_at m context path s d = chosen m (role_of m context path) path s (value_at m (role_of m context path) context path s d)

-- the root row of a source, which is a JSON object
unfoldable pub document_value_at : Mapping → Data → Reading Row
document_value_at m d = do
  ms ← object_at SOURCE_NOT_OBJECT [] d
  s ← members_at m 0 [] (empty_draft, 0) ms
  Ok (finished s.0)

unfoldable pub document_at : Mapping → List ℕ → Reading Row
document_at m source = or_refuse SOURCE_NOT_OBJECT [] (reading source) >>= document_value_at m
