use Rattle.std.proofs.Common.{◌≡◌, List, true, ◌∙◌, ap}
use Rattle.column_loading.specs.Forms.{slots_in}
use Rattle.column_loading.specs.Slots.{is_behind, live_slot, slot_ids}
use Rattle.column_loading.specs.declared.slot.Slot.{Slot}
use Rattle.column_loading.proofs.Indexed.{either-way, indexed-push, indexed-same}
use Rattle.column_loading.proofs.slots.Slots.push.Goals as goal

pub invariant_of-self-then-is_last : goal.invariant_of-self-then-is_last
invariant_of-self-then-is_last c =
    let slots = slots_in c.self.inside.form in
    let last : is_behind c.args.id (slot_ids slots) ≡ true = ap (λ (ss : List Slot). is_behind c.args.id (slot_ids ss)) c.self.view_is ∙ c.requires.last c.if-is_last.true in
    either-way c.push.result c.push.ensures.slots c.push.ensures.memory
    (λ made. indexed-push slots c.self.inside.places c.in_default.not-Some c.self.invariant (live_slot c.args.id c.args.kept) (slots_in c.push.new.self) last made)
    (λ same. indexed-same slots (slots_in c.push.new.self) c.self.inside.places (ap slot_ids same) c.self.invariant)
