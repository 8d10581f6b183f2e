-- What is known of the roles of paths (Elasticsearch Reference 8, 'Mapping', 'Nested field type').
use Rattle.std.specs.Prelude.{◌≡◌, ℕ, ◌<◌, List, length, is_some, Bool, ◌&&◌, slice_get, ⊤}
use Rattle.std.specs.Option.{option_map_or}
use Rattle.agg_model.specs.declared.mapping.Field.{Field}
use Rattle.agg_model.specs.declared.mapping.FieldKind.{FieldKind}
use Rattle.agg_model.specs.declared.mapping.FieldKind.TheVariants.{Keyword}
use Rattle.agg_model.specs.declared.mapping.Mapping.{Mapping}
use Rattle.agg_reading.specs.declared.parts.Role.{Role}
use Rattle.agg_reading.specs.declared.parts.Role.TheVariants as role
use Rattle.agg_reading.specs.Fields.{nested_from}
use Rattle.agg_model.specs.Contexts.{is_in_context}

-- the path is a nested path strictly beneath the context
abbrev pub is_deeper : Mapping → ℕ → List ℕ → Bool
is_deeper m context path = is_some (nested_from 0 m.nested path) && is_in_context m.nested context path

-- the kind of a field by its place; a place without a field counts as a keyword's
abbrev pub kind_in : List Field → ℕ → FieldKind
kind_in fields place = option_map_or (λ f. f.kind) (slice_get fields place) Keyword

-- a field has its own kind, and a nested path is one of the mapping's
abbrev pub IsRoleIn : Mapping → Role → Type 0
IsRoleIn m (role.Leaf field kind above) = kind ≡ kind_in m.fields field
IsRoleIn m role.Plain = ⊤
IsRoleIn m (role.Nested place) = place < length m.nested
IsRoleIn m role.Unmapped = ⊤
