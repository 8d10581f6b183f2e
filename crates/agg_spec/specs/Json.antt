-- The JSON values that lines are made of, and their text (RFC 8259). An object prints its members in byte order of their names.
use Rattle.std.specs.Prelude.{ℕ, ℤ, List, [], ◌∷◌}
use Rattle.serde_json.specs.Data.{Data, number, unsigned, array, object, Members, no_members}
use Rattle.serde_json.specs.Data.{put as with_member}
use Rattle.serde_json.specs.Find.{of_integer}
use Rattle.serde_json.specs.View.{items_of}

-- a member's name and its value
abbrev pub Member : Type 0
Member = List ℕ × Data

-- the members of an object, and then each of these; of one name the last counts
abbrev pub with_members : List Member → Members → Members
with_members [] ms = ms
with_members (c ∷ cs) ms = with_members cs (with_member c.0 c.1 ms)

abbrev pub object_of : List Member → Data
object_of ms = object (with_members ms no_members)

abbrev pub array_of : List Data → Data
array_of ds = array (items_of ds)

abbrev pub count : ℕ → Data
count n = number (unsigned n)

abbrev pub whole_number : ℤ → Data
whole_number n = number (of_integer n)
