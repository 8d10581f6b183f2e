use Rattle.std.proofs.Common.{◌≡◌, ◌<◌, ◌+◌, ◌∷◌, [], ◌++◌, ℕ, List, None, Some, length, take, get_or, sym, ◌∙◌, ap, arith}
use Rattle.std.specs.Prelude.{String, string_bytes}
use Rattle.std.specs.declared.alloc.Global.{Global}
use Rattle.std.specs.BTreeMap.{get_by_text}
use Rattle.std.specs.Map.{update}
use Rattle.std.specs.Str.{bytes_eq}
use Rattle.std.proofs.lemmas.List.{get_or-map, length-map, length-take}
use Rattle.std.proofs.lemmas.Map.Text.{btree_map_updates_text}
use Rattle.agg_documents.specs.Slots.{place_of}
use Rattle.shard_columns.proofs.Laying.{all-taken, take-next}
use Rattle.column_loading.specs.Forms.{slots_in}
use Rattle.column_loading.specs.Slots.{slot_at, slot_ids}
use Rattle.column_loading.specs.declared.slot.Slot.{Slot}
use Rattle.column_loading.proofs.Indexed.{behind-absent, front-all, none-placed, place_among, places-more}
use Rattle.column_loading.proofs.slots.places_of.Goals as goal

pub loop-place-init : goal.loop-place-init
loop-place-init c = λ id. ap (λ (es : List (String Global × ℕ)). place_among es id) c.new-places.ensures.empty ∙ sym (none-placed id)

pub loop-place-preserved : goal.loop-place-preserved
loop-place-preserved c =
    let slots = slots_in c.args.slots.now in
    let ids = slot_ids slots in
    let k = c.loop-place.place in
    let s = slot_at slots k in
    let old = c.loop-place.places in
    let below : k < length slots = omega (arith, c.loop-place-test.true, c.len-place-end.ensures) in
    let low : k < length ids = omega (arith, below, length-map slots (λ (t : Slot). t.id)) in
    let at : s.id ≡ get_or ids k s.id = sym (get_or-map (λ (t : Slot). t.id) slots k (record { id = []; live = None }) s.id below) in
    let next : take (k + 1) ids ≡ take k ids ++ s.id ∷ [] = take-next ids k s.id low at in
    let absent : place_of s.id (take k ids) ≡ None = behind-absent s.id (take k ids) (front-all ids k s.id c.requires.ascending low at) in
    let key_is : string_bytes c.in_ok-id.id ≡ s.id = c.in_ok-id.ensures.ok ∙ c.id.ensures in
    λ id. places-more s.id (take k ids) (get_by_text old) (get_by_text c.insert.new.self) k absent (omega (arith, length-take k ids, low)) c.loop-place.invariant
    (λ j. btree_map_updates_text (string_bytes c.in_ok-id.id) old c.insert.new.self (Some k) c.in_ok-insert.ensures.updates j
    ∙ ap (λ (key : List ℕ). update bytes_eq (get_by_text old) key (Some k) j) key_is) id
    ∙ ap (place_of id) (sym next)

pub returns : goal.returns
returns c =
    let slots = slots_in c.args.slots.now in
    let ids = slot_ids slots in
    λ id. c.loop-place.invariant id ∙ ap (place_of id) (all-taken ids c.loop-place.place (omega (arith, c.loop-place-test.false, c.len-place-end.ensures, length-map slots (λ (t : Slot). t.id))))
