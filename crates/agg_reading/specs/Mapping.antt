-- Mappings (Elasticsearch Reference 8, 'Mapping', 'dynamic').
use Rattle.std.specs.Prelude.{ℕ, ◌+◌, List, [], ◌∷◌, ◌++◌, map, Option, Some, None, Ok, Bool, true, false, if◌then◌else◌, codes, unwrap_or}
use Rattle.std.specs.Option.{option_map_or}
use Rattle.std.specs.Str.{bytes_eq}
use Rattle.serde_json.specs.Data.{Data, boolean, string, Members}
use Rattle.serde_json.specs.Find.{get_member}
use Rattle.agg_model.specs.declared.limits.TheConstants.{MAX_PROPERTY_LEVELS}
use Rattle.agg_model.specs.declared.script_refusal.TheConstants.{BAD_INDEX_LINE}
use Rattle.agg_model.specs.declared.mapping.Field.{Field}
use Rattle.agg_model.specs.declared.mapping.NestedPath.{NestedPath}
use Rattle.agg_model.specs.declared.mapping.Mapping.{Mapping}
use Rattle.agg_reading.specs.declared.parts.Found.{Found}
use Rattle.agg_reading.specs.declared.parts.FoundField.{FoundField}
use Rattle.agg_reading.specs.declared.parts.FoundPath.{FoundPath}
use Rattle.agg_reading.specs.Reading.{Reading, ◌>>=◌, ◌>>◌, refuse}
use Rattle.agg_reading.specs.Pointer.{member_step}
use Rattle.agg_reading.specs.Json.{object_at, known, optional}
use Rattle.agg_reading.specs.Properties.{property_at, properties_of}

-- the place of a path among the nested paths, counted from n
unfoldable pub found_from : ℕ → List FoundPath → List ℕ → Option ℕ
found_from n [] path = None
found_from n (p ∷ ps) path = if bytes_eq p.path path then Some n else found_from (n + 1) ps path

-- the context of what the nested path `within` encloses: 0 for the root, i + 1 for the i-th nested path
unfoldable pub context_of : List FoundPath → List ℕ → ℕ
context_of nested within = option_map_or (λ n. n + 1) (found_from 0 nested within) 0

unfoldable pub numbered_field : List FoundPath → FoundField → Field
numbered_field nested f = record { path = f.path; kind = f.kind; ignore_above = f.ignore_above; context = context_of nested f.within }

unfoldable pub numbered_path : List FoundPath → FoundPath → NestedPath
numbered_path nested p = record { path = p.path; parent = context_of nested p.within }

-- contexts are numbers of nested paths, which are known only at the end
unfoldable pub numbered : Bool → Found → Mapping
numbered strict found = record {
  fields = map (numbered_field found.nested) found.fields;
  nested = map (numbered_path found.nested) found.nested;
  objects = found.objects;
  strict = strict;
}

-- whether `dynamic` is strict: `false`, `"false"` or `"strict"`
unfoldable pub dynamic_at : List ℕ → Data → Reading Bool
dynamic_at at (boolean b) = if b then refuse BAD_INDEX_LINE at else Ok false
dynamic_at at (string s) = if bytes_eq s (codes "strict") then Ok true else (if bytes_eq s (codes "false") then Ok false else refuse BAD_INDEX_LINE at)
dynamic_at at _ = refuse BAD_INDEX_LINE at

abbrev pub nothing_found : Found
nothing_found = record { fields = []; nested = []; objects = [] }

-- properties stand at most MAX_PROPERTY_LEVELS deep
unfoldable pub found_in : List ℕ → Members → Reading Found
found_in at ms = properties_of (property_at MAX_PROPERTY_LEVELS) [] [] (at ++ member_step (codes "properties")) nothing_found (get_member (codes "properties") ms)

unfoldable pub mapping_at : List ℕ → Data → Reading Mapping
mapping_at at d = do
  ms ← object_at BAD_INDEX_LINE at d
  known BAD_INDEX_LINE (codes "dynamic" ∷ codes "properties" ∷ []) at ms
  strict ← optional dynamic_at (codes "dynamic") at ms
  found ← found_in at ms
  Ok (numbered (unwrap_or strict false) found)

abbrev pub empty_mapping : Mapping
empty_mapping = record { fields = []; nested = []; objects = []; strict = false }
