-- The walk of `properties` (Elasticsearch Reference 8, 'Mapping', 'Field data types', 'ignore_above').
-- A refusal of an index line is BAD_INDEX_LINE, with the pointer of the first thing refused.
use Rattle.std.specs.Prelude.{ℕ, zero, suc, ◌+◌, List, [], ◌∷◌, ◌++◌, length, Option, Some, None, Ok, Bool, not, ◌&&◌, ◌==◌, if◌then◌else◌, nat_le, nat_lt, ⊤, codes, is_some}
use Rattle.std.specs.List.{list_any}
use Rattle.std.specs.declared.cmp.Ordering.{Ordering}
use Rattle.std.specs.Ordering.{nat_cmp, is_lt}
use Rattle.std.specs.Cmp.Lexicographic.{slice_cmp}
use Rattle.std.specs.Str.{bytes_eq}
use Rattle.serde_json.specs.Data.{Data, Members, no_members, member}
use Rattle.serde_json.specs.Find.{as_number, as_u64, get_member}
use Rattle.list_laws.specs.Sorting.{insert_behind}
use Rattle.agg_model.specs.declared.limits.TheConstants.{MAX_FIELD_NAME, MAX_IGNORE_ABOVE, MAX_PATHS}
use Rattle.agg_model.specs.declared.script_refusal.TheConstants.{BAD_INDEX_LINE}
use Rattle.agg_model.specs.declared.mapping.FieldKind.{FieldKind}
use Rattle.agg_model.specs.declared.mapping.FieldKind.TheVariants.{Long, Integer, Short, Byte, Keyword, Boolean, Date}
use Rattle.agg_reading.specs.declared.names.FieldType.{FieldType}
use Rattle.agg_reading.specs.declared.names.FieldType.TheVariants.{Leaf, Object, Nested}
use Rattle.agg_reading.specs.declared.parts.Found.{Found}
use Rattle.agg_reading.specs.Reading.{Reading, ◌>>=◌, ◌>>◌, refuse, or_refuse}
use Rattle.agg_reading.specs.Pointer.{member_step}
use Rattle.agg_model.specs.FieldKinds.{ValueKind, value_kind}
use Rattle.agg_reading.specs.Json.{object_at, text_at, known, optional}

-- byte order
abbrev pub is_before : List ℕ → List ℕ → Bool
is_before a b = is_lt (slice_cmp nat_cmp a b)

-- two items in byte order of their paths
abbrev pub by_path : {A : Type 0} → (A → List ℕ) → A → A → Ordering
by_path path_of x y = slice_cmp nat_cmp (path_of x) (path_of y)

-- an item put in byte order of its path, behind those with that path
unfoldable pub place : {A : Type 0} → (A → List ℕ) → A → List A → List A
place path_of = insert_behind (by_path path_of)

-- 1 to MAX_FIELD_NAME bytes without a dot
unfoldable pub is_field_name : List ℕ → Bool
is_field_name name = nat_lt 0 (length name) && nat_le (length name) MAX_FIELD_NAME && not (list_any (λ b. b == 46) name)

unfoldable pub type_named : List ℕ → Option FieldType
type_named s =
    if bytes_eq s (codes "long") then Some (Leaf Long) else (
    if bytes_eq s (codes "integer") then Some (Leaf Integer) else (
    if bytes_eq s (codes "short") then Some (Leaf Short) else (
    if bytes_eq s (codes "byte") then Some (Leaf Byte) else (
    if bytes_eq s (codes "keyword") then Some (Leaf Keyword) else (
    if bytes_eq s (codes "boolean") then Some (Leaf Boolean) else (
    if bytes_eq s (codes "date") then Some (Leaf Date) else (
    if bytes_eq s (codes "object") then Some Object else (
    if bytes_eq s (codes "nested") then Some Nested else None))))))))

unfoldable pub type_at : List ℕ → Data → Reading FieldType
type_at at d = text_at BAD_INDEX_LINE at d >>= λ s. or_refuse BAD_INDEX_LINE at (type_named s)

-- without `type` it is an object where it has `properties`, else the field is refused
abbrev pub type_or : List ℕ → Option FieldType → Members → Reading FieldType
type_or at (Some t) ms = Ok t
type_or at None ms = if is_some (get_member (codes "properties") ms) then Ok Object else refuse BAD_INDEX_LINE at

unfoldable pub type_in : List ℕ → Members → Reading FieldType
type_in at ms = optional type_at (codes "type") at ms >>= λ t. type_or at t ms

-- at most MAX_PATHS fields and nested paths
abbrev pub is_full : Found → Bool
is_full found = nat_le MAX_PATHS (length found.fields + length found.nested)

-- the members that each field may have
abbrev pub plain_names : List (List ℕ)
plain_names = codes "doc_values" ∷ codes "index" ∷ codes "store" ∷ codes "type" ∷ []

abbrev pub leaf_names : FieldKind → List (List ℕ)
leaf_names kind = elim (value_kind kind) [
  | ValueKind.wholes half ↦ plain_names
  | ValueKind.words ↦ codes "doc_values" ∷ codes "eager_global_ordinals" ∷ codes "ignore_above" ∷ codes "index" ∷ codes "store" ∷ codes "type" ∷ []
  | ValueKind.flags ↦ plain_names
  | ValueKind.dates ↦ codes "doc_values" ∷ codes "format" ∷ codes "index" ∷ codes "store" ∷ codes "type" ∷ []
]

-- the one format of dates ('format')
abbrev pub date_format : List ℕ
date_format = codes "strict_date_optional_time||epoch_millis"

unfoldable pub format_at : List ℕ → Data → Reading ⊤
format_at at d = text_at BAD_INDEX_LINE at d >>= λ s. if bytes_eq s date_format then Ok tt else refuse BAD_INDEX_LINE at

abbrev pub bound_in : List ℕ → Option ℕ → Reading ℕ
bound_in at None = refuse BAD_INDEX_LINE at
bound_in at (Some n) = if nat_le n MAX_IGNORE_ABOVE then Ok n else refuse BAD_INDEX_LINE at

-- a whole number from 0 to MAX_IGNORE_ABOVE
unfoldable pub bound_at : List ℕ → Data → Reading ℕ
bound_at at d = or_refuse BAD_INDEX_LINE at (as_number d) >>= λ n. bound_in at (as_u64 n)

-- within : the innermost nested path around it; path : its own
unfoldable pub leaf_at : FieldKind → List ℕ → List ℕ → List ℕ → Found → Members → Reading Found
leaf_at kind within path at found ms =
    if is_full found then refuse BAD_INDEX_LINE at else (do
      known BAD_INDEX_LINE (leaf_names kind) at ms
      optional format_at (codes "format") at ms
      above ← optional bound_at (codes "ignore_above") at ms
      Ok (record { fields = place (λ f. f.path) (record { path = path; kind = kind; ignore_above = above; within = within }) found.fields; nested = found.nested; objects = found.objects }))

abbrev pub with_object : List ℕ → Found → Found
with_object path found = record { fields = found.fields; nested = found.nested; objects = place (λ p. p) path found.objects }

abbrev pub with_nested : List ℕ → List ℕ → Found → Found
with_nested within path found = record { fields = found.fields; nested = place (λ p. p.path) (record { path = path; within = within }) found.nested; objects = found.objects }

-- field : what a field adds, by the nested path around it, its path, where it stands, what was found before, and its value
module _ (field : List ℕ → List ℕ → List ℕ → Found → Data → Reading Found) where
  -- front : the path of the object and a dot, or nothing at the root
  unfoldable pub fields_from : List ℕ → List ℕ → List ℕ → Found → Members → Reading Found
  fields_from within front at found no_members = Ok found
  fields_from within front at found (member k d ms) =
      if is_field_name k then (do
        next ← field within (front ++ k) (at ++ member_step k) found d
        fields_from within front at next ms)
      else refuse BAD_INDEX_LINE (at ++ member_step k)

  unfoldable pub properties_at : List ℕ → List ℕ → List ℕ → Found → Data → Reading Found
  properties_at within front at found d = object_at BAD_INDEX_LINE at d >>= fields_from within front at found

  abbrev pub properties_of : List ℕ → List ℕ → List ℕ → Found → Option Data → Reading Found
  properties_of within front at found None = Ok found
  properties_of within front at found (Some d) = properties_at within front at found d

  -- the members of an object, which `properties` may be
  unfoldable pub inner_at : List ℕ → List ℕ → List ℕ → Found → Members → Reading Found
  inner_at within path at found ms = do
    known BAD_INDEX_LINE (codes "properties" ∷ codes "type" ∷ []) at ms
    properties_of within (path ++ 46 ∷ []) (at ++ member_step (codes "properties")) found (get_member (codes "properties") ms)

  abbrev pub by_type : FieldType → List ℕ → List ℕ → List ℕ → Found → Members → Reading Found
  by_type (Leaf kind) within path at found ms = leaf_at kind within path at found ms
  by_type Object within path at found ms = inner_at within path at (with_object path found) ms
  by_type Nested within path at found ms = if is_full found then refuse BAD_INDEX_LINE at else inner_at path path at (with_nested within path found) ms

-- left : how many levels of properties may still nest
unfoldable pub property_at : ℕ → List ℕ → List ℕ → List ℕ → Found → Data → Reading Found
property_at zero within path at found d = refuse BAD_INDEX_LINE at
property_at (suc left) within path at found d = do
  ms ← object_at BAD_INDEX_LINE at d
  type ← type_in at ms
  by_type (property_at left) type within path at found ms
