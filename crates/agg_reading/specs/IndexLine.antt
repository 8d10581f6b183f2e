-- The index line: name, settings and mappings (Elasticsearch Reference 8, 'Create index API').
use Rattle.std.specs.Prelude.{ℕ, ℤ, pos, negsuc, List, [], ◌∷◌, ◌++◌, length, Option, Some, None, Ok, ◌&&◌, ◌==◌, if◌then◌else◌, nat_le, nat_lt, codes, unwrap_or}
use Rattle.serde_json.specs.Data.{Data, object, Members}
use Rattle.serde_json.specs.Find.{get_member}
use Rattle.agg_model.specs.declared.limits.TheConstants.{MAX_INDEX_NAME, MAX_SHARDS}
use Rattle.agg_model.specs.declared.script_refusal.TheConstants.{BAD_INDEX_LINE}
use Rattle.agg_reading.specs.declared.parts.IndexLine.{IndexLine}
use Rattle.agg_reading.specs.Reading.{Reading, ◌>>=◌, ◌>>◌, refuse, or_refuse}
use Rattle.agg_reading.specs.Pointer.{member_step}
use Rattle.agg_reading.specs.Json.{reading, object_at, text_at, known, optional}
use Rattle.agg_reading.specs.Scalars.{whole}
use Rattle.agg_reading.specs.Mapping.{mapping_at, empty_mapping}

abbrev pub shards_in : List ℕ → Option ℤ → Reading ℕ
shards_in at (Some (pos n)) = if nat_le 1 n && nat_le n MAX_SHARDS then Ok n else refuse BAD_INDEX_LINE at
shards_in at (Some (negsuc n)) = refuse BAD_INDEX_LINE at
shards_in at None = refuse BAD_INDEX_LINE at

-- a whole number or decimal text from 1 to MAX_SHARDS
unfoldable pub shards_at : List ℕ → Data → Reading ℕ
shards_at at d = shards_in at (whole d)

unfoldable pub shards_named : List ℕ → List ℕ → Members → Reading (Option ℕ)
shards_named name at ms = optional shards_at name at ms

-- both names of the number, within an object `index`; any other `index` has no effect
abbrev pub inner_shards_of : List ℕ → Option Data → Reading (Option ℕ × Option ℕ)
inner_shards_of at (Some (object ms)) = do
  dotted ← shards_named (codes "index.number_of_shards") at ms
  plain ← shards_named (codes "number_of_shards") at ms
  Ok (dotted, plain)
inner_shards_of at _ = Ok (None, None)

unfoldable pub inner_shards : List ℕ → Members → Reading (Option ℕ × Option ℕ)
inner_shards at ms = inner_shards_of (at ++ member_step (codes "index")) (get_member (codes "index") ms)

-- a further number is refused where it differs from those before it
unfoldable pub agreed : Option ℕ → List ℕ → Option ℕ → Reading (Option ℕ)
agreed None at further = Ok further
agreed (Some n) at None = Ok (Some n)
agreed (Some n) at (Some further) = if n == further then Ok (Some n) else refuse BAD_INDEX_LINE at

-- the four places are compared in byte order of their pointers
unfoldable pub agreed_all : List ℕ → Option ℕ → Option ℕ × Option ℕ → Option ℕ → Reading (Option ℕ)
agreed_all at dotted inner plain = do
  one ← agreed dotted (at ++ member_step (codes "index") ++ member_step (codes "index.number_of_shards")) inner.0
  two ← agreed one (at ++ member_step (codes "index") ++ member_step (codes "number_of_shards")) inner.1
  agreed two (at ++ member_step (codes "number_of_shards")) plain

-- the number of shards; all other settings have no effect
unfoldable pub settings_at : List ℕ → Data → Reading ℕ
settings_at at d = do
  ms ← object_at BAD_INDEX_LINE at d
  inner ← inner_shards at ms
  dotted ← shards_named (codes "index.number_of_shards") at ms
  plain ← shards_named (codes "number_of_shards") at ms
  shards ← agreed_all at dotted inner plain
  Ok (unwrap_or shards 1)

-- a text of 1 to MAX_INDEX_NAME bytes
unfoldable pub index_name_at : List ℕ → Data → Reading (List ℕ)
index_name_at at d = text_at BAD_INDEX_LINE at d >>= λ s. if nat_lt 0 (length s) && nat_le (length s) MAX_INDEX_NAME then Ok s else refuse BAD_INDEX_LINE at

unfoldable pub index_value_at : Data → Reading IndexLine
index_value_at d = do
  ms ← object_at BAD_INDEX_LINE [] d
  known BAD_INDEX_LINE (codes "index" ∷ codes "mappings" ∷ codes "settings" ∷ []) [] ms
  name ← optional index_name_at (codes "index") [] ms
  mapping ← optional mapping_at (codes "mappings") [] ms
  shards ← optional settings_at (codes "settings") [] ms
  given ← or_refuse BAD_INDEX_LINE [] name
  Ok (record { name = given; mapping = unwrap_or mapping empty_mapping; shards = unwrap_or shards 1 })

unfoldable pub index_line_at : List ℕ → Reading IndexLine
index_line_at bytes = or_refuse BAD_INDEX_LINE [] (reading bytes) >>= index_value_at
