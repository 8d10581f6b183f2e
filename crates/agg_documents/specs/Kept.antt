-- What a store keeps beside its entries.
use Rattle.std.specs.Prelude.{◌≡◌, ◌<◌, ℕ, List, length}
use Rattle.std.specs.BTreeMap.{get_by_text}
use Rattle.std.specs.List.{IsDistinct}
use Rattle.std.specs.Str.{bytes_eq}
use Rattle.agg_model.specs.declared.limits.TheConstants.{WEIGHT_LIMIT}
use Rattle.agg_reading.specs.Store.{live_documents, store_weight}
use Rattle.agg_documents.specs.Slots.{entries_of, ids, place_of}
use Rattle.agg_documents.specs.declared.store.Store.TheInside.{Inside}

-- where each id stands, that no id has two places, the number of live documents, and their weight, which is below WEIGHT_LIMIT
pub record IsKept (s : Inside) : Type 0 where
  pub places : (id : List ℕ) → get_by_text s.places id ≡ place_of id (ids (entries_of s.slots.items))
  pub distinct : IsDistinct bytes_eq (ids (entries_of s.slots.items))
  pub live : s.live ≡ length (live_documents (entries_of s.slots.items))
  pub weight : s.weight ≡ store_weight (entries_of s.slots.items)
  pub light : s.weight < WEIGHT_LIMIT
