use Rattle.std.proofs.Common.{◌≡◌, List, true, sym, ◌∙◌, ap}
use Rattle.agg_documents.specs.Slots.{place_of}
use Rattle.column_loading.specs.Forms.{slots_in}
use Rattle.column_loading.specs.Slots.{is_behind, slot_ids}
use Rattle.column_loading.specs.declared.slot.Slot.{Slot}
use Rattle.column_loading.proofs.Indexed.{behind-new}
use Rattle.column_loading.proofs.slots.Slots.find.Goals as goal

pub returns-then-comes_last-clause-place : goal.returns-then-comes_last-clause-place
returns-then-comes_last-clause-place c =
    let slots = slots_in c.self.inside.form in
    let id = c.args.id.now in
    let last : is_behind id (slot_ids slots) ≡ true = sym c.comes_last.ensures ∙ c.if-comes_last.true in
    sym (ap (λ (ss : List Slot). place_of id (slot_ids ss)) (sym c.self.view_is) ∙ behind-new slots c.self.inside.places c.in_default.not-Some c.self.invariant id last)

pub returns-then-comes_last-clause-last : goal.returns-then-comes_last-clause-last
returns-then-comes_last-clause-last c = λ known. ap (λ (ss : List Slot). is_behind c.args.id.now (slot_ids ss)) (sym c.self.view_is) ∙ (sym c.comes_last.ensures ∙ c.if-comes_last.true)
