-- Slots in the order in which their ids came, and where each id stands (Elasticsearch Reference 8, 'Index API' on `_id`).
use Rattle.std.specs.Prelude.{◌≡◌, ◌-◌, ℕ, Bool, true, List, [], ◌∷◌, length, map, Option, None, Some, slice_get, slice_index_or, IsTrue}
use Rattle.std.specs.BTreeMap.{BTreeMap, get_by_text}
use Rattle.std.specs.Cmp.Lexicographic.{slice_cmp}
use Rattle.std.specs.List.{list_all}
use Rattle.std.specs.Option.{option_map_or}
use Rattle.std.specs.Ordering.{nat_cmp, is_lt, ordering_then}
use Rattle.std.specs.declared.alloc.Global.{Global}
use Rattle.std.specs.declared.cmp.Ordering.{Ordering}
use Rattle.std.specs.declared.string.String.{String}
use Rattle.agg_documents.specs.Slots.{place_of}
use Rattle.column_loading.specs.declared.slot.Kept.{Kept}
use Rattle.column_loading.specs.declared.slot.Slot.{Slot}

-- a slot with this live document
abbrev pub live_slot : List ℕ → Kept → Slot
live_slot id kept = record { id = id; live = Some kept }

-- the slot at a place
abbrev pub slot_at : List Slot → ℕ → Slot
slot_at slots place = slice_index_or slots place (record { id = []; live = None })

abbrev pub slot_ids : List Slot → List (List ℕ)
slot_ids slots = map (λ s. s.id) slots

-- ids by length, and then by bytes
abbrev pub id_cmp : List ℕ → List ℕ → Ordering
id_cmp a b = ordering_then (nat_cmp (length a) (length b)) (slice_cmp nat_cmp a b)

-- an id comes behind the last of these, if there is any
abbrev pub is_behind : List ℕ → List (List ℕ) → Bool
is_behind id ids = option_map_or (λ last. is_lt (id_cmp last id)) (slice_get ids (length ids - 1)) true

-- each id comes behind those before it
unfoldable pub IsAscending : List (List ℕ) → Type 0
IsAscending [] = Unit {0}
IsAscending (id ∷ ids) = IsTrue (list_all (λ later. is_lt (id_cmp id later)) ids) × IsAscending ids

-- the map has the place of each id
abbrev pub HasPlaces : List (List ℕ) → BTreeMap (String Global) ℕ → Type 0
HasPlaces ids places = (id : List ℕ) → get_by_text places id ≡ place_of id ids

-- ids ascend where no map has their places
abbrev pub IsIndexed : List Slot → Option (BTreeMap (String Global) ℕ) → Type 0
IsIndexed slots None = IsAscending (slot_ids slots)
IsIndexed slots (Some places) = HasPlaces (slot_ids slots) places
