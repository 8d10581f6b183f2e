-- JSON in bytes, and the parts of an object, each found or refused (RFC 8259).
-- `read` takes nesting up to 127, and of a repeated name the last value; members stand in byte order of their names.
use Rattle.std.specs.Prelude.{ℕ, List, ◌++◌, Option, Some, None, Ok, Err, ⊤, Bool, if◌then◌else◌}
use Rattle.std.specs.List.{list_any}
use Rattle.std.specs.Str.{bytes_eq, is_utf8}
use Rattle.serde_json.specs.Data.{Data, Items, Members, no_members, member}
use Rattle.serde_json.specs.Find.{as_object, as_array, as_str, get_member}
use Rattle.serde_json.specs.Read.{read}
use Rattle.agg_model.specs.declared.body_refusal.TheConstants.{MISSING_MEMBER}
use Rattle.agg_reading.specs.declared.fault.RequestFault.TheVariants.{NotJson}
use Rattle.agg_reading.specs.Reading.{Reading, ◌>>=◌, refuse, or_refuse}
use Rattle.agg_reading.specs.Pointer.{member_step}

-- the value that bytes are, if they are JSON
unfoldable pub reading : List ℕ → Option Data
reading bytes = if is_utf8 bytes then read bytes else None

abbrev pub or_not_json : Option Data → Reading Data
or_not_json (Some d) = Ok d
or_not_json None = Err NotJson

unfoldable pub json_at : List ℕ → Reading Data
json_at bytes = or_not_json (reading bytes)

-- a value of this JSON type, or the refusal of this number

unfoldable pub object_at : ℕ → List ℕ → Data → Reading Members
object_at code at d = or_refuse code at (as_object d)

unfoldable pub list_at : ℕ → List ℕ → Data → Reading Items
list_at code at d = or_refuse code at (as_array d)

unfoldable pub text_at : ℕ → List ℕ → Data → Reading (List ℕ)
text_at code at d = or_refuse code at (as_str d)

-- a member that has to be there
unfoldable pub required : List ℕ → List ℕ → Members → Reading Data
required name at ms = or_refuse MISSING_MEMBER at (get_member name ms)

-- a member that may be absent, read by f from where it stands
abbrev pub optional_of : {A : Type 0} → (List ℕ → Data → Reading A) → List ℕ → Option Data → Reading (Option A)
optional_of f at None = Ok None
optional_of f at (Some d) = f at d >>= λ x. Ok (Some x)

abbrev pub optional : {A : Type 0} → (List ℕ → Data → Reading A) → List ℕ → List ℕ → Members → Reading (Option A)
optional f name at ms = optional_of f (at ++ member_step name) (get_member name ms)

abbrev pub is_among : List (List ℕ) → List ℕ → Bool
is_among names name = list_any (bytes_eq name) names

-- each member has one of the names: else the first other name is refused
unfoldable pub known : ℕ → List (List ℕ) → List ℕ → Members → Reading ⊤
known code names at no_members = Ok tt
known code names at (member k d ms) = if is_among names k then known code names at ms else refuse code (at ++ member_step k)

-- the one member that has none of these names, where this one was found before it
unfoldable pub sole_besides : List (List ℕ) → Option (List ℕ × Data) → Members → Option (List ℕ × Data)
sole_besides names found no_members = found
sole_besides names None (member k d ms) = sole_besides names (if is_among names k then None else Some (k, d)) ms
sole_besides names (Some m) (member k d ms) = if is_among names k then sole_besides names (Some m) ms else None

-- the only member
abbrev pub sole : Members → Option (List ℕ × Data)
sole no_members = None
sole (member k d no_members) = Some (k, d)
sole (member k d (member l e ms)) = None

unfoldable pub sole_at : ℕ → List ℕ → Members → Reading (List ℕ × Data)
sole_at code at ms = or_refuse code at (sole ms)
