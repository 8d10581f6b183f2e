-- `after` as read (Elasticsearch Reference 8, 'Composite aggregation').
use Rattle.std.specs.Prelude.{ℕ, List, Option, option_map, option_to_list, find, flat_map}
use Rattle.std.specs.Str.{bytes_eq}
use Rattle.serde_json.specs.View.{members_view}
use Rattle.agg_model.specs.declared.key.Key.{Key}
use Rattle.agg_reading.specs.Composite.{Source}
use Rattle.agg_reading.specs.After.{names_of, source_names}
use Rattle.agg_reading.specs.After.{After as Read}
use Rattle.request_kinds.specs.declared.after.After.{After}

-- the parts by name, and the names of all members
abbrev pub after_view : After → Read
after_view a = (a.parts, names_of (members_view a.members.now.entries))

-- the first part of a name
abbrev pub part_named : List ℕ → List (List ℕ × Key) → Option Key
part_named name parts = option_map (λ p. p.1) (find (λ p. bytes_eq p.0 name) parts)

-- the parts of these sources, in their order
abbrev pub parts_of : List (List ℕ × Key) → List Source → List Key
parts_of parts sources = flat_map (λ name. option_to_list (part_named name parts)) (source_names sources)
