-- Fields and nested paths of a mapping (Elasticsearch Reference 8, 'Mapping', 'Nested field type').
use Rattle.std.specs.Prelude.{ℕ, ◌+◌, List, [], ◌∷◌, Option, Some, None, if◌then◌else◌}
use Rattle.std.specs.Str.{bytes_eq}
use Rattle.agg_model.specs.declared.body_refusal.TheConstants.{NO_SUCH_FIELD}
use Rattle.agg_model.specs.declared.mapping.Field.{Field}
use Rattle.agg_model.specs.declared.mapping.NestedPath.{NestedPath}
use Rattle.agg_model.specs.declared.mapping.Mapping.{Mapping}
use Rattle.agg_reading.specs.Reading.{Reading, or_refuse}

-- the field with this path and its place, counted from n
unfoldable pub field_from : ℕ → List Field → List ℕ → Option (ℕ × Field)
field_from n [] path = None
field_from n (f ∷ fs) path = if bytes_eq f.path path then Some (n, f) else field_from (n + 1) fs path

unfoldable pub nested_from : ℕ → List NestedPath → List ℕ → Option (ℕ × NestedPath)
nested_from n [] path = None
nested_from n (p ∷ ps) path = if bytes_eq p.path path then Some (n, p) else nested_from (n + 1) ps path

-- a field that is there
unfoldable pub field_at : Mapping → List ℕ → List ℕ → Reading (ℕ × Field)
field_at m at path = or_refuse NO_SUCH_FIELD at (field_from 0 m.fields path)
