-- Short names for the indices and searches of the examples. Field 0 is `b`, a boolean, 1 is `n`, a long, and 2 is `t`, a keyword.
use Rattle.std.specs.Prelude.{ℕ, ℤ, Bool, true, false, List, [], ◌∷◌, map, None, Ok, codes}
use Rattle.serde_json.specs.Written.{compact_text}
use Rattle.agg_model.specs.declared.row.Scalar.TheVariants as scalar
use Rattle.agg_model.specs.declared.row.FieldValues.{FieldValues}
use Rattle.agg_model.specs.declared.row.Row.{Row, roll-Row}
use Rattle.agg_model.specs.declared.row.Children.{Children, roll-Children}
use Rattle.agg_model.specs.declared.mapping.FieldKind.TheVariants as type
use Rattle.agg_model.specs.declared.mapping.Field.{Field}
use Rattle.agg_model.specs.declared.mapping.NestedPath.{NestedPath}
use Rattle.agg_model.specs.declared.mapping.Mapping.{Mapping}
use Rattle.agg_model.specs.declared.query.Query.{Query}
use Rattle.agg_model.specs.declared.query.Query.TheVariants.{All}
use Rattle.agg_model.specs.declared.aggregation.Kind.{Kind}
use Rattle.agg_model.specs.declared.aggregation.Kind.TheVariants.{Terms}
use Rattle.agg_model.specs.declared.aggregation.Order.{Order}
use Rattle.agg_model.specs.declared.aggregation.OrderBy.TheVariants as by
use Rattle.agg_model.specs.declared.aggregation.Agg.{Agg, roll-Agg}
use Rattle.agg_model.specs.declared.aggregation.Search.{Search}
use Rattle.agg_model.specs.declared.breaker.Limits.{Limits}
use Rattle.agg_model.specs.declared.breaker.BreakerStats.{BreakerStats}
use Rattle.agg_model.specs.declared.settings.Settings.{Settings}
use Rattle.agg_evaluation.specs.Rows.{shard_rows}
use Rattle.agg_spec.specs.Index.{Index, shard_numbers}
use Rattle.agg_spec.specs.Outcome.{Request, answer_of}
use Rattle.agg_spec.specs.Json.{object_of}
use Rattle.agg_spec.specs.AnswerTree.{printer, object_members}
use Rattle.agg_spec.specs.Notes.{piped}
use Rattle.agg_spec.specs.NoteZones.{zoned_notes}

abbrev pub flags : List Bool → FieldValues
flags bs = record { field = 0; values = map scalar.Flag bs }

abbrev pub numbers : List ℤ → FieldValues
numbers ns = record { field = 1; values = map scalar.Whole ns }

abbrev pub words : List (List ℕ) → FieldValues
words ws = record { field = 2; values = map scalar.Word ws }

abbrev pub parent_row : List FieldValues → List Children → Row
parent_row vs children = roll-Row (record { values = vs; children = children })

abbrev pub row : List FieldValues → Row
row vs = parent_row vs []

abbrev pub nested_at : ℕ → List Row → Children
nested_at path rows = roll-Children (record { path = path; rows = rows })

abbrev pub field : List ℕ → type.the_data → ℕ → Field
field path kind context = record { path = path; kind = kind; ignore_above = None; context = context }

abbrev pub mapping : List Field → List NestedPath → Mapping
mapping fields nested = record { fields = fields; nested = nested; objects = []; strict = false }

-- an index `i` with the fields b, n and t, given the rows of each shard
abbrev pub index : List (List Row) → Index
index shards = record {
  name = codes "i";
  mapping = mapping (field (codes "b") type.Boolean 0 ∷ field (codes "n") type.Long 0 ∷ field (codes "t") type.Keyword 0 ∷ []) [];
  shards = map (λ rows. shard_rows (map (λ r. (codes "1", r)) rows)) shards;
}

abbrev pub one_shard : List Row → Index
one_shard rows = index (rows ∷ [])

-- an index `i` whose one field is `items.s`, a keyword of the nested objects `items`
abbrev pub items_index : List Row → Index
items_index rows = record {
  name = codes "i";
  mapping = mapping (field (codes "items.s") type.Keyword 1 ∷ []) (record { path = codes "items"; parent = 0 } ∷ []);
  shards = shard_rows (map (λ r. (codes "1", r)) rows) ∷ [];
}

-- an index `i` whose one field is d, of dates, with one document for each of these
abbrev pub dates_index : List ℤ → Index
dates_index dates = record {
  name = codes "i";
  mapping = mapping (field (codes "d") type.Date 0 ∷ []) [];
  shards = shard_rows (map (λ d. (codes "1", row (record { field = 0; values = scalar.Whole d ∷ [] } ∷ []))) dates) ∷ [];
}

-- a nested object with this value of `items.s`
abbrev pub item : List ℕ → Row
item s = row (record { field = 0; values = scalar.Word s ∷ [] } ∷ [])

abbrev pub by_count : List Order
by_count = record { by = by.Count; descending = true } ∷ []

abbrev pub by_key : List Order
by_key = record { by = by.Key; descending = false } ∷ []

abbrev pub agg : List ℕ → Kind → List Agg → Agg
agg name kind children = roll-Agg (record { name = name; kind = kind; children = children })

abbrev pub leaf : List ℕ → Kind → Agg
leaf name kind = agg name kind []

abbrev pub search_of : Query → List Agg → Search
search_of query aggs = record { query = query; aggs = aggs; body_bytes = 0; partial = false; pipes = [] }

-- the text of the member `aggregations` of the response
abbrev pub aggregations_text : Index → Search → List ℕ
aggregations_text index search =
    let told = piped search (answer_of index search (shard_numbers index)) in
    compact_text (object_of (object_members (map (printer index.mapping) search.aggs) (zoned_notes search index.mapping told.notes) told.answer.nodes))

abbrev pub default_limits : Limits
default_limits = record { request = 644245094; fielddata = 429496729; inflight = 1073741824; parent = 751619276 }

-- one worker that runs one search at a time
abbrev pub settings : Limits → Settings
settings limits = record { workers = 1; batch = 512; width = 1; limits = limits; heap = 1073741824; max_buckets = 65536; scan = false; generate = None }

abbrev pub request_limit : ℕ → Settings
request_limit n = settings (record default_limits { request = n })

abbrev pub request : ℕ → Search → Request
request bytes search = record { bytes = bytes; search = Ok search }

-- the terms of t in a body of 38 bytes
abbrev pub terms : Request
terms = request 38 (search_of All (leaf (codes "t") (Terms 2 10 25 1 by_count None [] None false) ∷ []))

-- estimated and granted bytes, limit, overhead and trips
abbrev pub stats : ℕ → ℕ → ℕ → ℕ → ℕ → BreakerStats
stats estimated granted limit overhead tripped = record { estimated = estimated; granted = granted; limit = limit; overhead = overhead; tripped = tripped }
