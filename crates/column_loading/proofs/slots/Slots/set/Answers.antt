use Rattle.std.proofs.Common.{◌≡◌, List, Some, ◌∙◌, ap, arith}
use Rattle.std.proofs.lemmas.List.{length-map}
use Rattle.agg_documents.specs.Slots.{place_of}
use Rattle.column_loading.specs.Forms.{slots_in}
use Rattle.column_loading.specs.Slots.{slot_ids}
use Rattle.column_loading.specs.declared.slot.Slot.{Slot}
use Rattle.column_loading.proofs.Indexed.{either-way, indexed-same, place-within, set-ids}
use Rattle.column_loading.proofs.slots.Slots.set.Goals as goal

pub set-requires : goal.set-requires
set-requires c =
    let slots = slots_in c.self.inside.form in
    let found : place_of c.args.slot.id (slot_ids slots) ≡ Some c.args.place = ap (λ (ss : List Slot). place_of c.args.slot.id (slot_ids ss)) c.self.view_is ∙ c.requires in
    omega (arith, place-within c.args.slot.id (slot_ids slots) c.args.place found, length-map slots (λ (s : Slot). s.id))

pub invariant_of-self : goal.invariant_of-self
invariant_of-self c =
    let slots = slots_in c.self.inside.form in
    let found : place_of c.args.slot.id (slot_ids slots) ≡ Some c.args.place = ap (λ (ss : List Slot). place_of c.args.slot.id (slot_ids ss)) c.self.view_is ∙ c.requires in
    either-way c.set.result c.set.ensures.slots c.set.ensures.memory
    (λ made. indexed-same slots (slots_in c.set.new.self) c.self.inside.places (ap slot_ids made ∙ set-ids slots c.args.slot c.args.place found) c.self.invariant)
    (λ same. indexed-same slots (slots_in c.set.new.self) c.self.inside.places (ap slot_ids same) c.self.invariant)
