-- Action lines (Elasticsearch Reference 8, 'Bulk API'). Neither refusal has a pointer.
use Rattle.std.specs.Prelude.{ℕ, List, [], ◌∷◌, ◌++◌, length, Option, Some, None, Ok, Bool, true, false, ◌&&◌, if◌then◌else◌, nat_le, nat_lt, codes, decimal, is_none}
use Rattle.std.specs.List.{list_all}
use Rattle.std.specs.Fmt.{signed_decimal}
use Rattle.std.specs.Str.{bytes_eq}
use Rattle.serde_json.specs.Data.{Data, null, number, string, Members}
use Rattle.serde_json.specs.Find.{as_integer, get_member}
use Rattle.agg_model.specs.declared.limits.TheConstants.{MAX_ID}
use Rattle.agg_model.specs.declared.script_refusal.TheConstants.{MALFORMED_ACTION, UPDATE_NOT_SUPPORTED}
use Rattle.agg_model.specs.declared.bulk.ActionKind.{ActionKind}
use Rattle.agg_model.specs.declared.bulk.ActionKind.TheVariants.{Index, Create, Delete}
use Rattle.agg_reading.specs.declared.parts.Heading.{Heading}
use Rattle.agg_reading.specs.Reading.{Reading, ◌>>=◌, refuse, or_refuse}
use Rattle.agg_reading.specs.Json.{reading, object_at, sole_at}

unfoldable pub action_named : List ℕ → Option ActionKind
action_named s =
    if bytes_eq s (codes "index") then Some Index else (
    if bytes_eq s (codes "create") then Some Create else (
    if bytes_eq s (codes "delete") then Some Delete else None))

abbrev pub unless_null : Option Data → Option Data
unless_null (Some null) = None
unless_null d = d

-- a member that is there and not null
unfoldable pub set_member : List ℕ → Members → Option Data
set_member name ms = unless_null (get_member name ms)

abbrev pub is_name_of : List ℕ → Option Data → Bool
is_name_of index None = true
is_name_of index (Some (string s)) = bytes_eq s index
is_name_of index (Some _) = false

-- `_index` is this index, and the members that concurrent writers use are not set
unfoldable pub is_plain : List ℕ → Members → Bool
is_plain index ms =
    is_name_of index (set_member (codes "_index") ms)
    && list_all (λ name. is_none (set_member name ms)) (codes "if_primary_term" ∷ codes "if_seq_no" ∷ codes "pipeline" ∷ codes "version" ∷ codes "version_type" ∷ [])

-- a text or a whole number, which counts as its decimal text
abbrev pub label_of : Option Data → Reading (Option (List ℕ))
label_of None = Ok None
label_of (Some (string s)) = Ok (Some s)
label_of (Some (number n)) = or_refuse MALFORMED_ACTION [] (as_integer n) >>= λ z. Ok (Some (signed_decimal z))
label_of (Some _) = refuse MALFORMED_ACTION []

unfoldable pub label_in : List ℕ → Members → Reading (Option (List ℕ))
label_in name ms = label_of (set_member name ms)

-- an id of 1 to MAX_ID bytes
abbrev pub named_id : List ℕ → Reading (List ℕ)
named_id id = if nat_lt 0 (length id) && nat_le (length id) MAX_ID then Ok id else refuse MALFORMED_ACTION []

-- an absent id is made from the number of the action
abbrev pub id_or_made : ℕ → Option (List ℕ) → Reading (List ℕ)
id_or_made before None = Ok (codes "_auto_" ++ decimal before)
id_or_made before (Some id) = named_id id

-- a delete has to name its id
abbrev pub id_or : ActionKind → ℕ → Option (List ℕ) → Reading (List ℕ)
id_or Index before said = id_or_made before said
id_or Create before said = id_or_made before said
id_or Delete before None = refuse MALFORMED_ACTION []
id_or Delete before (Some id) = named_id id

abbrev pub routing_or : List ℕ → Option (List ℕ) → List ℕ
routing_or id None = id
routing_or id (Some routing) = routing

-- the members of the one action
unfoldable pub heading_at : List ℕ → ℕ → ActionKind → Members → Reading Heading
heading_at index before kind ms =
    if is_plain index ms then (do
      said ← label_in (codes "_id") ms
      id ← id_or kind before said
      routing ← label_in (codes "routing") ms
      Ok (record { kind = kind; id = id; routing = routing_or id routing }))
    else refuse MALFORMED_ACTION []

-- before : how many actions come before
unfoldable pub action_value_at : List ℕ → ℕ → Data → Reading Heading
action_value_at index before d = do
  ms ← object_at MALFORMED_ACTION [] d
  said ← sole_at MALFORMED_ACTION [] ms
  inner ← object_at MALFORMED_ACTION [] said.1
  if bytes_eq said.0 (codes "update") then refuse UPDATE_NOT_SUPPORTED [] else (do
    kind ← or_refuse MALFORMED_ACTION [] (action_named said.0)
    heading_at index before kind inner)

unfoldable pub action_at : List ℕ → ℕ → List ℕ → Reading Heading
action_at index before bytes = or_refuse MALFORMED_ACTION [] (reading bytes) >>= action_value_at index before
