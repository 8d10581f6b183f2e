-- The slots of live documents, by their ids, sources, weights and routings.
use Rattle.std.specs.Prelude.{◌≡◌, ℕ, suc, List, [], ◌∷◌, Option, length}
use Rattle.std.specs.BTreeMap.{BTreeMap, get}
use Rattle.std.specs.Ordering.{nat_cmp}
use Rattle.column_loading.specs.Slots.{live_slot}
use Rattle.column_loading.specs.declared.slot.Slot.{Slot}

-- the routing of a place, where it is not the id
abbrev pub routing_in : BTreeMap ℕ (List ℕ) → ℕ → Option (List ℕ)
routing_in routings place = get nat_cmp routings place

-- a slot of these parts
abbrev pub slot_of : Option (List ℕ) → List ℕ → List ℕ → ℕ → Slot
slot_of routing id source weight = live_slot id (record { routing = routing; source = source; weight = weight })

-- the slots of ids, sources and weights side by side, with the routings of their places
unfoldable pub slots_of : (ℕ → Option (List ℕ)) → List (List ℕ) → List (List ℕ) → List ℕ → List Slot
slots_of routing [] sources weights = []
slots_of routing (id ∷ ids) [] weights = []
slots_of routing (id ∷ ids) (source ∷ sources) [] = []
slots_of routing (id ∷ ids) (source ∷ sources) (weight ∷ weights) = slot_of (routing 0) id source weight ∷ slots_of (λ place. routing (suc place)) ids sources weights

-- each weight has an id and a source
pub record AreKept (ids sources : List (List ℕ)) (weights : List ℕ) : Type 0 where
  pub has_ids : length ids ≡ length weights
  pub has_sources : length sources ≡ length weights
