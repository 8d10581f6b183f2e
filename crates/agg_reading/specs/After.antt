-- Pages of a composite aggregation: `after`, and the aggregation as a whole (Elasticsearch Reference 8, 'Composite aggregation').
use Rattle.std.specs.Prelude.{ℕ, ◌+◌, List, [], ◌∷◌, ◌++◌, map, flat_map, find, option_map, option_to_list, Option, Some, None, Ok, Bool, ◌&&◌, if◌then◌else◌, ⊤, codes, unwrap_or}
use Rattle.std.specs.List.{list_all}
use Rattle.std.specs.Str.{bytes_eq}
use Rattle.serde_json.specs.Data.{Data, null, Members, no_members, member}
use Rattle.agg_model.specs.declared.limits.TheConstants.{MAX_PAGE}
use Rattle.agg_model.specs.declared.body_refusal.TheConstants.{OUT_OF_RANGE, UNKNOWN_MEMBER, WRONG_TYPE}
use Rattle.agg_model.specs.declared.mapping.Mapping.{Mapping}
use Rattle.agg_model.specs.declared.key.Key.{Key}
use Rattle.agg_model.specs.declared.key.Key.TheVariants as key
use Rattle.agg_model.specs.declared.aggregation.Kind.{Kind}
use Rattle.agg_model.specs.declared.aggregation.Kind.TheVariants as kind
use Rattle.agg_reading.specs.Reading.{Reading, ◌>>=◌, ◌>>◌, refuse}
use Rattle.agg_reading.specs.Pointer.{member_step, item_step}
use Rattle.agg_reading.specs.Json.{object_at, required, known, optional, is_among}
use Rattle.agg_reading.specs.Numbers.{whole_at}
use Rattle.agg_reading.specs.Leaves.{value_at}
use Rattle.agg_reading.specs.Composite.{Source, sources_at}
use Rattle.agg_model.specs.ValueKeys.{probe_key}

-- the part of a source; null where rows without a value have it
unfoldable pub part_at : Source → List ℕ → Data → Reading Key
part_at s at null = if s.0.missing_bucket then Ok key.Null else refuse OUT_OF_RANGE at
part_at s at d = value_at s.1 at d >>= λ p. Ok (probe_key p)

-- the first source of a name
unfoldable pub source_of : List ℕ → List Source → Option Source
source_of name sources = find (λ s. bytes_eq s.0.name name) sources

-- a member that names no source is left to the rule on names
abbrev pub part_of : Option Source → List ℕ → List ℕ → Data → List (List ℕ × Key) → Reading (List (List ℕ × Key))
part_of None at k d done = Ok done
part_of (Some s) at k d done = part_at s at d >>= λ p. Ok (done ++ (k, p) ∷ [])

unfoldable pub parts_from : List Source → List ℕ → List (List ℕ × Key) → Members → Reading (List (List ℕ × Key))
parts_from sources at done no_members = Ok done
parts_from sources at done (member k d ms) = do
  next ← part_of (source_of k sources) (at ++ member_step k) k d done
  parts_from sources at next ms

abbrev pub names_of : Members → List (List ℕ)
names_of no_members = []
names_of (member k d ms) = k ∷ names_of ms

-- exactly the names of the sources
unfoldable pub has_names : List (List ℕ) → List (List ℕ) → Bool
has_names sources names = list_all (is_among names) sources && list_all (is_among sources) names

-- `after` as read: the parts by name, and the names of all members
abbrev pub After : Type 0
After = List (List ℕ × Key) × List (List ℕ)

unfoldable pub after_at : List Source → List ℕ → Data → Reading After
after_at sources at d = do
  ms ← object_at WRONG_TYPE at d
  parts ← parts_from sources at [] ms
  Ok (parts, names_of ms)

abbrev pub source_names : List Source → List (List ℕ)
source_names sources = map (λ s. s.0.name) sources

unfoldable pub after_rule : List ℕ → List Source → Option After → Reading ⊤
after_rule at sources None = Ok tt
after_rule at sources (Some after) = if has_names (source_names sources) after.1 then Ok tt else refuse OUT_OF_RANGE (at ++ member_step (codes "after"))

-- no name stands a second time, from this place on
unfoldable pub distinct_from : List ℕ → ℕ → List (List ℕ) → List (List ℕ) → Reading ⊤
distinct_from at n before [] = Ok tt
distinct_from at n before (name ∷ names) = if is_among before name then refuse OUT_OF_RANGE (at ++ item_step n) else distinct_from at (n + 1) (before ++ name ∷ []) names

-- the parts in the order of the sources
unfoldable pub after_key : List Source → After → Key
after_key sources after = key.Many (flat_map (λ name. option_to_list (option_map (λ p. p.1) (find (λ p. bytes_eq p.0 name) after.0))) (source_names sources))

-- the members beside `sources`
unfoldable pub composite_in : List Source → List ℕ → Members → Reading Kind
composite_in sources at ms = do
  after ← optional (after_at sources) (codes "after") at ms
  size ← optional (whole_at 1 MAX_PAGE) (codes "size") at ms
  after_rule at sources after
  distinct_from (at ++ member_step (codes "sources")) 0 [] (source_names sources)
  Ok (kind.Composite (map (λ s. s.0) sources) (unwrap_or size 10) (option_map (after_key sources) after))

unfoldable pub composite_at : Mapping → List ℕ → Data → Reading Kind
composite_at m at d = do
  ms ← object_at WRONG_TYPE at d
  known UNKNOWN_MEMBER (codes "after" ∷ codes "size" ∷ codes "sources" ∷ []) at ms
  said ← required (codes "sources") at ms
  sources ← sources_at m (at ++ member_step (codes "sources")) said
  composite_in sources at ms
