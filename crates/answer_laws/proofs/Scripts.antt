-- Scripts as they are read, written out: the documents of each shard, and what became of the bulk actions.
use Rattle.std.specs.Prelude.{ℕ, List, [], ◌∷◌, ◌++◌, map, None, codes, decimal}
use Rattle.std.specs.List.{range_with_len}
use Rattle.agg_model.specs.declared.bulk.ActionKind.TheVariants as action
use Rattle.agg_model.specs.declared.bulk.Applied.TheVariants as applied
use Rattle.agg_model.specs.declared.bulk.ItemEnd.TheVariants as end
use Rattle.agg_model.specs.declared.bulk.Item.{Item}
use Rattle.agg_model.specs.declared.row.Row.{Row}
use Rattle.agg_model.specs.declared.row.FieldValues.{FieldValues}
use Rattle.agg_model.specs.declared.aggregation.Search.{Search}
use Rattle.agg_model.specs.declared.settings.Settings.{Settings}
use Rattle.agg_model.specs.declared.outcome.Answered.{Answered}
use Rattle.agg_evaluation.specs.Rows.{shard_rows}
use Rattle.agg_spec.specs.Index.{Index}
use Rattle.agg_spec.specs.Outcome.{Request}
use Rattle.agg_spec.specs.Requests.{LoadedScript, Segment}
use Rattle.agg_spec.specs.Rounds.{Round}
use Rattle.agg_spec.proofs.Samples.{row, index, request}

-- a document: its id and its root row
abbrev pub document : List ℕ → List FieldValues → List ℕ × Row
document id values = (id, row values)

-- the id of the action of this number, which names none
abbrev pub automatic : ℕ → List ℕ
automatic n = codes "_auto_" ++ decimal n

abbrev pub created : List ℕ → Item
created id = record { kind = action.Index; id = id; end = end.Applied applied.Created }

-- so many actions without an id
abbrev pub all_created : ℕ → List Item
all_created n = map (λ i. created (automatic i)) (range_with_len 0 n)

-- the index `i` with these documents in its shards
abbrev pub index_of : List (List (List ℕ × Row)) → Index
index_of shards = record (index []) { shards = map shard_rows shards }

abbrev pub asked : ℕ → Search → Request
asked bytes search = request bytes (record search { body_bytes = bytes })

-- these searches to the end of the script
abbrev pub searches : List Request → List Segment
searches requests = record { requests = requests; change = None } ∷ []

abbrev pub script : Index → List Item → ℕ → List Segment → LoadedScript
script index items columns segments = record { index = index; items = items; columns = columns; segments = segments; refused = None }

-- a round of one search
abbrev pub round : Settings → Request → Answered → Round
round settings request answer = record { settings = settings; requests = request ∷ []; answers = answer ∷ [] }
