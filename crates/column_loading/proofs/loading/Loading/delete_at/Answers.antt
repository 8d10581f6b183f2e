use Rattle.std.proofs.Common.{◌≡◌, ◌-◌, [], Some, None, refl, ◌∙◌, ap, arith}
use Rattle.std.specs.Option.{option_map}
use Rattle.std.proofs.lemmas.List.{length-map}
use Rattle.agg_reading.specs.Store.{live_at, weight}
use Rattle.agg_documents.specs.Slots.{ids, place_of}
use Rattle.agg_documents.proofs.Putting.{found-is, gone-weight, deleted-gone, deleted-live}
use Rattle.column_loading.specs.Loadings.{store_of}
use Rattle.column_loading.specs.declared.slot.Slot.{Slot}
use Rattle.column_loading.specs.Slots.{slot_ids}
use Rattle.column_loading.proofs.Indexed.{ids-are, place-within}
use Rattle.column_loading.proofs.Loaded.{replaced}
use Rattle.column_loading.proofs.loading.Loading.delete_at.Goals as goal

pub live_weight-requires : goal.live_weight-requires
live_weight-requires c =
    let slots = c.args.self.now.slots in
    omega (arith, place-within c.args.id (slot_ids slots) c.args.place c.requires.place, length-map slots (λ (s : Slot). s.id))

pub overflow_sub-weight : goal.overflow_sub-weight
overflow_sub-weight c =
    let m = c.requires.loading.0 in
    let held = c.requires.loading.1 in
    let id = c.args.id in
    let es = store_of m c.args.self.now in
    let found : place_of id (ids es) ≡ Some c.args.place = ap (place_of id) (ids-are m c.args.self.now.slots) ∙ c.requires.place in
    let is : Some c.in-Some.weight ≡ option_map weight (live_at id es) = found-is id es c.args.place (Some c.in-Some.weight) ([], None) found (c.in-Some.ensures m held.read) in
    (gone-weight id es c.in-Some.weight c.args.self.now.weight is held.weight).0

pub returns-in-None : goal.returns-in-None
returns-in-None c = λ m held.
    let id = c.args.id in
    let es = store_of m c.args.self.now in
    let found : place_of id (ids es) ≡ Some c.args.place = ap (place_of id) (ids-are m c.args.self.now.slots) ∙ c.requires.place in
    record { deleted_is = deleted-gone id es (found-is id es c.args.place None ([], None) found (c.in-None.ensures m held.read)); loading = held; shards = refl }

pub returns-in_ok-replace-in-Some : goal.returns-in_ok-replace-in-Some
returns-in_ok-replace-in-Some c = λ m held.
    let id = c.args.id in
    let old = c.args.self.now in
    let es = store_of m old in
    let w = c.in-Some.weight in
    let found : place_of id (ids es) ≡ Some c.args.place = ap (place_of id) (ids-are m old.slots) ∙ c.requires.place in
    let is : Some w ≡ option_map weight (live_at id es) = found-is id es c.args.place (Some w) ([], None) found (c.in-Some.ensures m held.read) in
    let slot : Slot = record { id = id; live = None } in
    let light = held.light in
    let made = replaced m old c.replace.new.self c.args.place slot (old.weight - w) None held found refl c.in_ok-replace-in-Some.ensures.slots c.in_ok-replace-in-Some.ensures.weight c.in_ok-replace-in-Some.ensures.drafts c.in_ok-replace-in-Some.ensures.shards
    (gone-weight id es w old.weight is held.weight).1 (omega (arith, light)) tt refl in
    record { deleted_is = deleted-live id es (store_of m c.replace.new.self) w is made.1; loading = made.0; shards = c.in_ok-replace-in-Some.ensures.shards }
