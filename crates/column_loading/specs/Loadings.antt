-- What was loaded so far: ids with the sources of their live documents, and growing shards of these documents.
use Rattle.std.specs.Prelude.{◌≡◌, ℕ, ◌+◌, ◌^◌, ◌<◌, ◌≤◌, List, [], ◌∷◌, map, length, Option, Ok, Err, Result, option_map, unwrap_or, IfSome, IsTrue, OnOk}
use Rattle.std.specs.List.{IsDistinct}
use Rattle.std.specs.Str.{bytes_eq}
use Rattle.agg_model.specs.declared.limits.TheConstants.{MAX_PATHS, WEIGHT_LIMIT}
use Rattle.agg_model.specs.declared.mapping.Mapping.{Mapping}
use Rattle.agg_model.specs.declared.row.Document.{Document}
use Rattle.agg_model.specs.declared.row.Row.{Row, roll-Row}
use Rattle.agg_model.specs.declared.bulk.Action.{Action}
use Rattle.agg_model.specs.declared.bulk.ActionKind.{ActionKind}
use Rattle.agg_model.specs.declared.bulk.Applied.{Applied}
use Rattle.agg_model.specs.Contexts.{parents_before}
use Rattle.agg_evaluation.specs.DocumentFits.{all_fit}
use Rattle.agg_reading.specs.Document.{document_at}
use Rattle.agg_reading.specs.Reading.{Reading}
use Rattle.agg_reading.specs.Store.{Store, live_documents, store_weight, row_weight, put_row, deleted}
use Rattle.agg_documents.specs.Slots.{ids}
use Rattle.document_rows.specs.Faults.{Gives}
use Rattle.document_rows.specs.declared.fault.ItemFault.{ItemFault}
use Rattle.document_rows.specs.declared.fault.ItemFault.TheVariants.{Refused, Memory}
use Rattle.column_loading.specs.Drafts.{AreGrowing}
use Rattle.column_loading.specs.declared.loading.Loading.{Loading}
use Rattle.column_loading.specs.declared.slot.Kept.{Kept}
use Rattle.column_loading.specs.declared.slot.Slot.{Slot}

-- the row that a source gives; one without values where it is refused
abbrev pub row_in : Reading Row → Row
row_in (Ok row) = row
row_in (Err fault) = roll-Row (record { values = []; children = [] })

abbrev pub root_at : Mapping → List ℕ → Row
root_at m source = row_in (document_at m source)

abbrev pub document_of : Mapping → List ℕ → Kept → Document
document_of m id kept = record { id = id; routing = unwrap_or kept.routing id; root = root_at m kept.source }

abbrev pub entry_of : Mapping → Slot → List ℕ × Option Document
entry_of m slot = (slot.id, option_map (document_of m slot.id) slot.live)

abbrev pub entries_of : Mapping → List Slot → Store
entries_of m slots = map (entry_of m) slots

-- the store of the live documents, each as its source gives it
abbrev pub store_of : Mapping → Loading → Store
store_of m loading = entries_of m loading.slots

-- the source is read, and its document weighs so much
pub record IsRead (m : Mapping) (kept : Kept) : Type 0 where
  pub read : document_at m kept.source ≡ Ok (root_at m kept.source)
  pub weighs : kept.weight ≡ row_weight (root_at m kept.source)

unfoldable pub AreRead : Mapping → List Slot → Type 0
AreRead m [] = Unit {0}
AreRead m (s ∷ ss) = IfSome s.live (IsRead m) × AreRead m ss

-- No id has two places; the weight of the live documents, below WEIGHT_LIMIT; each is read from its source and fits the mapping;
-- and growing shards hold exactly them.
pub record IsLoadingOf (m : Mapping) (loading : Loading) : Type 0 where
  pub few : length m.fields + length m.nested ≤ MAX_PATHS
  pub paths : IsTrue (parents_before m)
  pub some : 1 ≤ loading.shards
  pub in_range : loading.shards < 2 ^ 32
  pub distinct : IsDistinct bytes_eq (ids (store_of m loading))
  pub weight : loading.weight ≡ store_weight (store_of m loading)
  pub light : loading.weight < WEIGHT_LIMIT
  pub read : AreRead m loading.slots
  pub fit : IsTrue (all_fit m (live_documents (store_of m loading)))
  pub growing : AreGrowing m (live_documents (store_of m loading)) loading.shards loading.drafts

-- a loading under some mapping
abbrev pub IsLoading : Loading → Type 0
IsLoading loading = (m : Mapping) × IsLoadingOf m loading

-- this holds after a refusal
abbrev pub IfRefused : {X : Type 0} → Result X ItemFault → Type 0 → Type 0
IfRefused (Ok x) P = Unit {0}
IfRefused (Err (Refused refusal)) P = P
IfRefused (Err Memory) P = Unit {0}

-- what putting a document answers and makes of a loading, where its source gives its root row
pub record Puts (m : Mapping) (action : Action) (root : Row) (old new : Loading) (result : Result Applied ItemFault) : Type 0 where
  pub put : Gives (λ what. (what, store_of m new)) result (put_row action root (store_of m old))
  pub loading : OnOk result (IsLoadingOf m new)
  pub shards : OnOk result (new.shards ≡ old.shards)
  pub as_before : IfRefused result (new ≡ old)

abbrev pub PutsAll : ActionKind → Document → List ℕ → Loading → Loading → Result Applied ItemFault → Type 0
PutsAll kind document source old new result =
    (m : Mapping) → IsLoadingOf m old → document_at m source ≡ Ok document.root →
    Puts m (record { kind = kind; id = document.id; routing = document.routing; source = source }) document.root old new result

-- a loading under some mapping, for which this source gives this document
abbrev pub CanPut : Document → List ℕ → Loading → Type 0
CanPut document source loading = (m : Mapping) × (IsLoadingOf m loading × (document_at m source ≡ Ok document.root))

-- what taking the document of an id out answers and makes of a loading
pub record Deletes (m : Mapping) (id : List ℕ) (old new : Loading) (what : Applied) : Type 0 where
  pub deleted_is : (what, store_of m new) ≡ deleted id (store_of m old)
  pub loading : IsLoadingOf m new
  pub shards : new.shards ≡ old.shards

abbrev pub DeletesId : List ℕ → Loading → Loading → Applied → Type 0
DeletesId id old new what = (m : Mapping) → IsLoadingOf m old → Deletes m id old new what
