-- Pipelines as they are seen from an object, and those within each aggregation that stands there ('Pipeline aggregations').
use Rattle.std.specs.Prelude.{◌≡◌, ℕ, ◌<◌, ◌==◌, if◌then◌else◌, List, [], ◌∷◌, ◌++◌, map, length, slice_get}
use Rattle.std.specs.Option.{option_map_or}
use Rattle.agg_model.specs.declared.pipeline.Pipe.{Pipe}
use Rattle.agg_spec.specs.Notes.{pipes_within}
use Rattle.pipeline_agg.specs.declared.placed.Level.{Level}
use Rattle.pipeline_agg.specs.declared.placed.Part.{Part}
use Rattle.pipeline_agg.specs.declared.placed.Placed.{Placed}

-- a pipeline with its places from the object on
abbrev pub pipe_of : Placed → Pipe
pipe_of p = record p.pipe.now { at = p.at.now }

abbrev pub pipes_of : List Placed → List Pipe
pipes_of placed = map pipe_of placed

-- the pipelines at a place; a place without a list has none
abbrev pub part_of : List Part → ℕ → List Pipe
part_of parts place = option_map_or (λ p. pipes_of p.placed.items) (slice_get parts place) []

-- the lists are those within each of so many aggregations
abbrev pub AreParts : List Pipe → ℕ → List Part → Type 0
AreParts pipes aggs parts = (length parts ≡ aggs) × ((i : ℕ) → i < aggs → part_of parts i ≡ pipes_within i pipes)

-- one more pipeline stands at the place, where there is such a place
abbrev pub HasMore : List Part → ℕ → Placed → List Part → Type 0
HasMore old place placed new =
    (length new ≡ length old)
    × ((i : ℕ) → i < length old → part_of new i ≡ part_of old i ++ (if i == place then pipe_of placed ∷ [] else []))

-- the pipelines of a level, taken apart for so many aggregations
abbrev pub IsLevel : ℕ → Level → Type 0
IsLevel aggs level = AreParts (pipes_of level.pipes.now) aggs level.within.items
