-- The line that answers a search (the response body of 'Search API' with aggregations and without hits).
use Rattle.std.specs.Prelude.{ℕ, ◌-◌, false, List, [], ◌∷◌, ◌++◌, map, length, codes}
use Rattle.serde_json.specs.Data.{Data, null, boolean, string}
use Rattle.serde_json.specs.Written.{compact_text}
use Rattle.agg_model.specs.declared.pipeline.Piped.{Piped}
use Rattle.agg_model.specs.declared.answer.NodeAnswer.{NodeAnswer}
use Rattle.agg_model.specs.declared.aggregation.Agg.{Agg}
use Rattle.agg_model.specs.declared.aggregation.Search.{Search}
use Rattle.agg_model.specs.declared.mapping.Mapping.{Mapping}
use Rattle.agg_model.specs.declared.outcome.Failure.{Failure}
use Rattle.agg_spec.specs.Json.{Member, object_of, array_of, count}
use Rattle.agg_spec.specs.AnswerTree.{ZonedNote, printer, object_members}
use Rattle.agg_spec.specs.NoteZones.{zoned_notes}
use Rattle.agg_spec.specs.ErrorLines.{failures_member}

-- absent where the search has no aggregation
abbrev pub aggregations : Mapping → List Agg → List ZonedNote → List NodeAnswer → List Member
aggregations m [] notes nodes = []
aggregations m (a ∷ rest) notes nodes = (codes "aggregations", object_of (object_members (map (printer m) (a ∷ rest)) notes nodes)) ∷ []

-- how many shards there are, how many failed, and why
abbrev pub shards_member : ℕ → List Failure → Member
shards_member shards failures = (
  codes "_shards",
  object_of (
      (codes "failed", count (length failures))
      ∷ (failures_member failures
      ++ (codes "skipped", count 0) ∷ (codes "successful", count (shards - length failures)) ∷ (codes "total", count shards) ∷ [])),
)

-- the number of documents found is exact, and none of them is shown
abbrev pub hits_member : ℕ → Member
hits_member hits = (
  codes "hits",
  object_of (
      (codes "hits", array_of [])
      ∷ (codes "max_score", null)
      ∷ (codes "total", object_of ((codes "relation", string (codes "eq")) ∷ (codes "value", count hits) ∷ [])) ∷ []),
)

-- dates are printed by the mapping
abbrev pub response : Search → Mapping → Piped → ℕ → List Failure → Data
response search mapping piped shards failures = object_of (
    shards_member shards failures
    ∷ (aggregations mapping search.aggs (zoned_notes search mapping piped.notes) piped.answer.nodes
    ++ hits_member piped.answer.hits ∷ (codes "status", count 200) ∷ (codes "timed_out", boolean false) ∷ (codes "took", count 0) ∷ []))

-- the line of an answer with what its pipelines say, over so many shards, of which some failed
abbrev pub response_line : Search → Mapping → Piped → ℕ → List Failure → List ℕ
response_line search mapping piped shards failures = compact_text (response search mapping piped shards failures)
