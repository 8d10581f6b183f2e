-- The line that answers the bulk actions (the response body of 'Bulk API').
use Rattle.std.specs.Prelude.{ℕ, Bool, true, false, if◌then◌else◌, ◌==◌, ◌||◌, List, [], ◌∷◌, ◌++◌, map, length, codes}
use Rattle.std.specs.List.{list_any}
use Rattle.serde_json.specs.Data.{Data, boolean, string}
use Rattle.serde_json.specs.Written.{compact_text}
use Rattle.agg_model.specs.declared.item_refusal.TheConstants.{INDEX_FULL, STRICT_MAPPING, VERSION_CONFLICT}
use Rattle.agg_model.specs.declared.bulk.ActionKind.{ActionKind}
use Rattle.agg_model.specs.declared.bulk.ActionKind.TheVariants.{Index, Create, Delete}
use Rattle.agg_model.specs.declared.bulk.Applied.{Applied}
use Rattle.agg_model.specs.declared.bulk.Applied.TheVariants.{Created, Updated, Deleted, NotFound}
use Rattle.agg_model.specs.declared.bulk.ItemRefusal.{ItemRefusal}
use Rattle.agg_model.specs.declared.bulk.ItemEnd.{ItemEnd}
use Rattle.agg_model.specs.declared.bulk.ItemEnd.TheVariants as end
use Rattle.agg_model.specs.declared.bulk.Item.{Item}
use Rattle.agg_spec.specs.Json.{Member, object_of, array_of, count}

abbrev pub action_name : ActionKind → List ℕ
action_name Index = codes "index"
action_name Create = codes "create"
action_name Delete = codes "delete"

abbrev pub applied_name : Applied → List ℕ
applied_name Created = codes "created"
applied_name Updated = codes "updated"
applied_name Deleted = codes "deleted"
applied_name NotFound = codes "not_found"

abbrev pub applied_status : Applied → ℕ
applied_status Created = 201
applied_status Updated = 200
applied_status Deleted = 200
applied_status NotFound = 404

abbrev pub refusal_type : ℕ → List ℕ
refusal_type n =
    if n == VERSION_CONFLICT then codes "version_conflict_engine_exception"
    else if n == STRICT_MAPPING then codes "strict_dynamic_mapping_exception"
    else if n == INDEX_FULL then codes "index_full_exception" else codes "mapper_parsing_exception"

abbrev pub refusal_status : ℕ → ℕ
refusal_status n = if n == VERSION_CONFLICT then 409 else 400

-- a refusal of the action, and not of its document, has no path
abbrev pub refusal_path : ItemRefusal → List Member
refusal_path r = if (r.number == VERSION_CONFLICT) || (r.number == INDEX_FULL) then [] else (codes "path", string r.path) ∷ []

abbrev pub end_members : ItemEnd → List Member
end_members (end.Applied a) = (codes "result", string (applied_name a)) ∷ (codes "status", count (applied_status a)) ∷ []
end_members (end.Refused r) =
    (codes "error", object_of ((codes "number", count r.number) ∷ (refusal_path r ++ (codes "type", string (refusal_type r.number)) ∷ [])))
    ∷ (codes "status", count (refusal_status r.number)) ∷ []

abbrev pub item_value : List ℕ → Item → Data
item_value index i =
    object_of ((action_name i.kind, object_of ((codes "_id", string i.id) ∷ (codes "_index", string index) ∷ end_members i.end)) ∷ [])

abbrev pub is_refusal : ItemEnd → Bool
is_refusal (end.Applied a) = false
is_refusal (end.Refused r) = true

-- the items, or their number where the script was generated
abbrev pub items_value : List ℕ → List Item → Bool → Data
items_value index items generated = if generated then count (length items) else array_of (map (item_value index) items)

abbrev pub bulk_line : List ℕ → List Item → Bool → List ℕ
bulk_line index items generated = compact_text (object_of (
    (codes "errors", boolean (list_any (λ i. is_refusal i.end) items)) ∷ (codes "items", items_value index items generated) ∷ (codes "took", count 0) ∷ []))
