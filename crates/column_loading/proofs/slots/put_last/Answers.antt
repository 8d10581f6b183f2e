use Rattle.std.proofs.Common.{◌≡◌, ℕ, List, Some, [], ◌∷◌, ◌++◌, length, sym, ◌∙◌, ap, arith}
use Rattle.std.specs.Prelude.{String, string_bytes}
use Rattle.std.specs.declared.alloc.Global.{Global}
use Rattle.std.specs.BTreeMap.{get_by_text}
use Rattle.std.specs.Map.{update}
use Rattle.std.specs.Str.{bytes_eq}
use Rattle.std.proofs.lemmas.List.{length-map, map-append}
use Rattle.std.proofs.lemmas.Map.Text.{btree_map_updates_text}
use Rattle.agg_documents.specs.Slots.{place_of}
use Rattle.column_loading.specs.Forms.{slots_in}
use Rattle.column_loading.specs.Slots.{live_slot, slot_ids}
use Rattle.column_loading.specs.declared.slot.Slot.{Slot}
use Rattle.column_loading.proofs.Indexed.{none-placed, place_among, places-more}
use Rattle.column_loading.proofs.slots.put_last.Goals as goal

pub returns-clause-places : goal.returns-clause-places
returns-clause-places c =
    let slots = slots_in c.args.slots.now in
    let s = live_slot c.args.id c.args.kept in
    let old = c.args.places.now in
    let n = c.len-place.result in
    let key_is : string_bytes c.in_ok-key.key ≡ s.id = c.in_ok-key.ensures.ok ∙ c.as_str.ensures in
    let last : n ≡ length (slot_ids slots) = omega (arith, c.len-place.ensures, length-map slots (λ (t : Slot). t.id)) in
    let more : slot_ids (slots_in c.push.new.self) ≡ slot_ids slots ++ s.id ∷ [] = ap slot_ids c.in_ok-push.ensures.slots ∙ map-append (λ (t : Slot). t.id) slots (s ∷ []) in
    λ id. places-more s.id (slot_ids slots) (get_by_text old) (get_by_text c.insert.new.self) n c.requires.new last c.requires.places
    (λ j. btree_map_updates_text (string_bytes c.in_ok-key.key) old c.insert.new.self (Some n) c.in-Ok.ensures.updates j
    ∙ ap (λ (key : List ℕ). update bytes_eq (get_by_text old) key (Some n) j) key_is) id
    ∙ ap (place_of id) (sym more)

pub returns-in_default-clause-places : goal.returns-in_default-clause-places
returns-in_default-clause-places c = λ id. ap (λ (es : List (String Global × ℕ)). place_among es id) c.new-in_default.ensures.empty ∙ (sym (none-placed id) ∙ ap (λ (ss : List Slot). place_of id (slot_ids ss)) (sym c.new.ensures))
