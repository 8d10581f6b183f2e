-- What bulk actions leave (Elasticsearch Reference 8, 'Bulk API', 'Index API').
use Rattle.std.specs.Prelude.{ℕ, ◌+◌, List, [], ◌∷◌, map, filter, sum_by, flat_map, nat_lt, Option, Some, None, Ok, Bool, true, false, ◌&&◌, ◌==◌, is_some, option_to_list, if◌then◌else◌}
use Rattle.std.specs.List.{range_with_len}
use Rattle.std.specs.Str.{bytes_eq}
use Rattle.agg_model.specs.declared.limits.TheConstants.{WEIGHT_LIMIT}
use Rattle.agg_model.specs.declared.item_refusal.TheConstants.{INDEX_FULL, VERSION_CONFLICT}
use Rattle.agg_model.specs.declared.mapping.Mapping.{Mapping}
use Rattle.agg_model.specs.declared.row.Row.{Row, Row', Row_of-Children, end_of-Children, more_of-Children}
use Rattle.agg_model.specs.declared.row.Children.{Children, Children', Row_of-Row, end_of-Row, more_of-Row}
use Rattle.agg_model.specs.declared.row.Document.{Document}
use Rattle.agg_model.specs.declared.bulk.Action.{Action}
use Rattle.agg_model.specs.declared.bulk.ActionKind.{ActionKind}
use Rattle.agg_model.specs.declared.bulk.ActionKind.TheVariants.{Index, Create, Delete}
use Rattle.agg_model.specs.declared.bulk.Applied.{Applied}
use Rattle.agg_model.specs.declared.bulk.Applied.TheVariants.{Created, Updated, Deleted, NotFound}
use Rattle.agg_reading.specs.Reading.{Reading, ◌>>=◌, refuse}
use Rattle.agg_reading.specs.Document.{document_at}
use Rattle.agg_reading.specs.Routing.{shard_of}
use Rattle.agg_model.specs.Weight.{field_weight}

-- all ids in the order of their first accepted index or create, each with its live document
abbrev pub Store : Type 0
Store = List (List ℕ × Option Document)

unfoldable pub live_at : List ℕ → Store → Option Document
live_at id [] = None
live_at id (e ∷ es) = if bytes_eq e.0 id then e.1 else live_at id es

-- the document of an id, in its old place where it has one
unfoldable pub with_document : List ℕ → Option Document → Store → Store
with_document id d [] = (id, d) ∷ []
with_document id d (e ∷ es) = if bytes_eq e.0 id then (id, d) ∷ es else e ∷ with_document id d es

unfoldable pub live_documents : Store → List Document
live_documents store = flat_map (λ e. option_to_list e.1) store

-- the weight of a document: its rows, its values, and the bytes of its words

abbrev mutual
  pub row_weight : Row → ℕ
  row_weight (Row' values n children) = 1 + sum_by field_weight values + all_children_weight children

  pub rows_weight : {n : _} → Row_of-Row n → ℕ
  rows_weight end_of-Row = 0
  rows_weight (more_of-Row r rest) = row_weight r + rows_weight rest

  pub children_weight : Children → ℕ
  children_weight (Children' path n rows) = rows_weight rows

  pub all_children_weight : {n : _} → Row_of-Children n → ℕ
  all_children_weight end_of-Children = 0
  all_children_weight (more_of-Children c rest) = children_weight c + all_children_weight rest

abbrev pub weight : Document → ℕ
weight d = row_weight d.root

unfoldable pub store_weight : Store → ℕ
store_weight store = sum_by weight (live_documents store)

abbrev pub is_create : ActionKind → Bool
is_create Index = false
is_create Create = true
is_create Delete = false

-- a store whose documents weigh less than WEIGHT_LIMIT
abbrev pub kept : Applied → Store → Reading (Applied × Store)
kept what store = if nat_lt (store_weight store) WEIGHT_LIMIT then Ok (what, store) else refuse INDEX_FULL []

-- a create of a live id is refused
unfoldable pub put_row : Action → Row → Store → Reading (Applied × Store)
put_row action root store =
    if is_create action.kind && is_some (live_at action.id store) then refuse VERSION_CONFLICT []
    else kept (if is_some (live_at action.id store) then Updated else Created)
    (with_document action.id (Some (record { id = action.id; routing = action.routing; root = root })) store)

unfoldable pub deleted : List ℕ → Store → Applied × Store
deleted id store = if is_some (live_at id store) then (Deleted, with_document id None store) else (NotFound, store)

-- an action that puts a document
abbrev pub put : Mapping → Action → Store → Reading (Applied × Store)
put m action store = document_at m action.source >>= λ root. put_row action root store

-- what an action does and the store after it, or the refusal of its document or of the store
abbrev pub applied_by : ActionKind → Mapping → Action → Store → Reading (Applied × Store)
applied_by Index m action store = put m action store
applied_by Create m action store = put m action store
applied_by Delete m action store = Ok (deleted action.id store)

unfoldable pub applied : Mapping → Action → Store → Reading (Applied × Store)
applied m action store = applied_by action.kind m action store

-- the live documents of each shard, in store order
unfoldable pub shards_of : Store → ℕ → List (List Document)
shards_of store shards = map (λ s. filter (λ d. shard_of d.routing shards == s) (live_documents store)) (range_with_len 0 shards)
