-- The entries that the places of a store stand for.
use Rattle.std.specs.Prelude.{ℕ, suc, List, [], ◌∷◌, map, Option, Some, None, option_map, if◌then◌else◌}
use Rattle.std.specs.Str.{bytes_eq}
use Rattle.agg_model.specs.declared.row.Document.{Document}
use Rattle.agg_reading.specs.Store.{Store}
use Rattle.agg_documents.specs.declared.slot.Slot.{Slot}
use Rattle.agg_documents.specs.declared.slot.Slot.TheVariants.{Live, Gone}

abbrev pub id_of : Slot → List ℕ
id_of (Live document) = document.id
id_of (Gone id) = id

abbrev pub document_in : Slot → Option Document
document_in (Live document) = Some document
document_in (Gone id) = None

abbrev pub entries_of : List Slot → Store
entries_of slots = map (λ s. (id_of s, document_in s)) slots

-- the ids of a store, in their order
abbrev pub ids : Store → List (List ℕ)
ids store = map (λ e. e.0) store

-- the first place of an id, counted from 0
unfoldable pub place_of : List ℕ → List (List ℕ) → Option ℕ
place_of id [] = None
place_of id (other ∷ others) = if bytes_eq other id then Some 0 else option_map suc (place_of id others)
