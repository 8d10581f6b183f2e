use Rattle.std.specs.Prelude.{sum_by}
use Rattle.std.proofs.Common.{◌≡◌, ℕ, List, [], ◌∷◌, length, refl, sym, ◌∙◌, ap, arith}
use Rattle.agg_reading.specs.Store.{Store, weight, store_weight, shards_of}
use Rattle.agg_reading.proofs.ShardWeights.{shards_weigh}
use Rattle.agg_documents.specs.declared.slot.Slot.{Slot}
use Rattle.agg_documents.specs.Slots.{entries_of}
use Rattle.agg_documents.proofs.Dealing.{dealt-none, length-dealt, dealt-live, dealt-gone, dealt-all}
use Rattle.agg_documents.proofs.store.Store.into_shards.Goals as goal

no_items : (slots : List Slot) (n : ℕ) → n ≡ length slots → n ≡ 0 → slots ≡ []
no_items [] n is none = refl
no_items (s ∷ ss) n is none = absurd (omega (arith, is, none))

pub loop-slot-init : goal.loop-slot-init
loop-slot-init c = dealt-none c.in_ok-lists.lists.items c.into_iter-slot-iterator.result.rest.items c.args.shards c.in_ok-lists.ensures

pub deal-requires-clause-sizes : goal.deal-requires-clause-sizes
deal-requires-clause-sizes c = length-dealt c.loop-slot.lists.items c.loop-slot.slot-iterator.rest.items c.into_iter-slot-iterator.result.rest.items c.args.shards c.loop-slot.invariant

pub loop-slot-preserved : goal.loop-slot-preserved
loop-slot-preserved c =
    dealt-live c.loop-slot.lists.items c.deal.new.lists.items c.in-Some.slot c.in-Some-into_document.document c.loop-slot.slot-iterator.rest.items c.next.new.self.rest.items c.into_iter-slot-iterator.result.rest.items c.args.shards c.requires c.loop-slot.invariant
    c.in-Some.ensures.steps.0 (sym c.in-Some-into_document.ensures) c.in_ok-deal.ensures

pub loop-slot-preserved-in_default : goal.loop-slot-preserved-in_default
loop-slot-preserved-in_default c =
    dealt-gone c.loop-slot.lists.items c.in-Some.slot c.loop-slot.slot-iterator.rest.items c.next.new.self.rest.items c.into_iter-slot-iterator.result.rest.items c.args.shards c.loop-slot.invariant
    c.in-Some.ensures.steps.0 (sym c.in_default.ensures)

pub returns-clause-shards : goal.returns-clause-shards
returns-clause-shards c =
    c.from_vec.ensures
    ∙ (dealt-all c.loop-slot.lists.items c.loop-slot.slot-iterator.rest.items c.into_iter-slot-iterator.result.rest.items c.args.shards c.loop-slot.invariant (no_items c.loop-slot.slot-iterator.rest.items c.loop-slot.slot-iterator.rest.len c.loop-slot.slot-iterator.rest.ok.0 c.in-None.ensures.steps.0)
    ∙ (ap (λ (ss : List Slot). shards_of (entries_of ss) c.args.shards) c.into_iter-slot-iterator.ensures.into_iter_gives.0
    ∙ ap (λ (es : Store). shards_of es c.args.shards) c.self.view_is))

pub returns-clause-light : goal.returns-clause-light
returns-clause-light c =
    let all = shards_weigh c.args.self c.args.shards c.requires in
    let same = ap (sum_by (sum_by weight)) (returns-clause-shards c) in
    let kept = c.self.invariant.weight in
    let shown = ap store_weight c.self.view_is in
    omega (arith, all, same, kept, shown, c.self.invariant.light)
