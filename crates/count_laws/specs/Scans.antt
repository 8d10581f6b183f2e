-- The searches of a scan, one page after another ('Composite aggregation', pagination: `after` and `after_key`).
use Rattle.std.specs.Prelude.{◌≡◌, ⊤, List, [], ◌∷◌, Option, Some, None, option_map, slice_get}
use Rattle.std.specs.Option.{option_map_or}
use Rattle.agg_model.specs.declared.aggregation.Search.{Search}
use Rattle.agg_evaluation.specs.Rows.{PlacedRow}
use Rattle.agg_spec.specs.Pages.{last_key, search_after}
use Rattle.count_laws.specs.CompositeGroups.{Group, answered_groups}
use Rattle.count_laws.specs.Paths.{answer_of_shards}

-- the search behind the last key that a page returned
abbrev pub page_after : List (List PlacedRow) → Search → Option Search
page_after shards page = option_map (search_after page) (last_key (answer_of_shards page shards).nodes)

-- the searches are all pages from the first on: the last of them returns no bucket
abbrev pub IsScan : List (List PlacedRow) → Option Search → List Search → Type 0
IsScan shards None [] = ⊤
IsScan shards None (page ∷ pages) = ⊥
IsScan shards (Some first) [] = ⊥
IsScan shards (Some first) (page ∷ pages) = (page ≡ first) × IsScan shards (page_after shards first) pages

-- the groups that a page returns
abbrev pub page_groups : List (List PlacedRow) → Search → List Group
page_groups shards page = option_map_or answered_groups (slice_get (answer_of_shards page shards).nodes 0) []
