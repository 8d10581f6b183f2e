-- Steps of a pointer into a JSON value (RFC 6901, sections 3 and 5).
use Rattle.std.specs.Prelude.{ℕ, List, [], ◌∷◌, ◌==◌, if◌then◌else◌, decimal, encode_utf8}
use Rattle.std.specs.List.{flat_map}
use Rattle.std.specs.Str.{chars}

-- a character of a name: `~0` stands for `~`, and `~1` for `/`
abbrev pub escaped : ℕ → List ℕ
escaped c = if c == 126 then 126 ∷ 48 ∷ [] else (if c == 47 then 126 ∷ 49 ∷ [] else encode_utf8 c)

-- to the member of this name
abbrev pub member_step : List ℕ → List ℕ
member_step name = 47 ∷ flat_map escaped (chars name)

-- to the item at this place, counted from 0
abbrev pub item_step : ℕ → List ℕ
item_step n = 47 ∷ decimal n
