-- Where the walk of a document stands (Elasticsearch Reference 8, 'Nested field type').
use Rattle.std.specs.Prelude.{ℕ, List, [], Ok}
use Rattle.serde_json.specs.Data.{Members, object}
use Rattle.agg_model.specs.declared.mapping.Mapping.{Mapping}
use Rattle.agg_model.specs.declared.row.Row.{Row}
use Rattle.agg_reading.specs.declared.parts.Role.TheVariants as role
use Rattle.agg_reading.specs.Reading.{Reading, ◌>>=◌}
use Rattle.agg_reading.specs.Rows.{empty_draft, finished}
use Rattle.agg_reading.specs.Document.{State, value_at, members_at}
use Rattle.document_rows.specs.declared.walk.Walked.{Walked}

-- the row that is walked, and how many nested objects were met
abbrev pub state_of : Walked → State
state_of walked = (walked.row, walked.met)

-- an object at a nested path; the context around it does not matter to it
abbrev pub nested_at : Mapping → ℕ → List ℕ → State → Members → Reading State
nested_at m place path s ms = value_at m (role.Nested place) 0 path s (object ms)

-- the root row of an object
abbrev pub root_at : Mapping → Members → Reading Row
root_at m ms = members_at m 0 [] (empty_draft, 0) ms >>= λ s. Ok (finished s.0)
