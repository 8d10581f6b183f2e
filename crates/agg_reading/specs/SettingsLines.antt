-- Settings lines (Elasticsearch Reference 8, 'Cluster update settings API'): a JSON object whose only member is
-- `persistent` or `transient`. Both mean the same.
use Rattle.std.specs.Prelude.{ℕ, List, [], ◌∷◌, Option, Some, None, Bool, is_some, if◌then◌else◌, codes, option_and_then}
use Rattle.serde_json.specs.Data.{Data}
use Rattle.serde_json.specs.Find.{as_object}
use Rattle.agg_reading.specs.Json.{is_among, sole}

abbrev pub is_scope : List ℕ → Bool
is_scope name = is_among (codes "persistent" ∷ codes "transient" ∷ []) name

abbrev pub scope_in : Option (List ℕ × Data) → Option (List ℕ × Data)
scope_in None = None
scope_in (Some only) = if is_scope only.0 then Some only else None

-- the name and the value of a settings line's only member
unfoldable pub scope_of : Data → Option (List ℕ × Data)
scope_of d = scope_in (option_and_then sole (as_object d))

abbrev pub is_settings_line : Data → Bool
is_settings_line d = is_some (scope_of d)
