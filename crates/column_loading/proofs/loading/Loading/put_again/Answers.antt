use Rattle.std.proofs.Common.{◌≡◌, ℕ, Bool, ◌&&◌, [], Option, Some, None, Ok, if◌then◌else◌, refl, ◌∙◌, ap, subst, arith}
use Rattle.std.specs.Option.{is_some, option_map}
use Rattle.std.proofs.lemmas.List.{length-map}
use Rattle.agg_model.specs.declared.bulk.Action.{Action}
use Rattle.agg_model.specs.declared.bulk.Applied.TheVariants.{Created, Updated}
use Rattle.agg_reading.specs.Store.{is_create, live_at, weight}
use Rattle.agg_documents.specs.Slots.{ids, place_of}
use Rattle.agg_documents.proofs.Putting.{found-is, put-conflict, replaced-within, put-weight, put-full}
use Rattle.column_loading.specs.Loadings.{Puts, store_of}
use Rattle.column_loading.specs.Slots.{slot_ids}
use Rattle.column_loading.specs.declared.slot.Slot.{Slot}
use Rattle.column_loading.proofs.Indexed.{ids-are, place-within}
use Rattle.column_loading.proofs.Loaded.{refused-puts, put-again}
use Rattle.column_loading.proofs.loading.Loading.put_again.Goals as goal

pub live_weight-replaced-requires : goal.live_weight-replaced-requires
live_weight-replaced-requires c =
    let slots = c.args.self.now.slots in
    omega (arith, place-within c.args.document.id (slot_ids slots) c.args.place c.requires.place, length-map slots (λ (s : Slot). s.id))

pub returns-then-conflicts : goal.returns-then-conflicts
returns-then-conflicts c = λ m held read.
    let d = c.args.document in
    let old = c.args.self.now in
    let es = store_of m old in
    let r = c.live_weight-replaced.result in
    let found : place_of d.id (ids es) ≡ Some c.args.place = ap (place_of d.id) (ids-are m c.args.self.now.slots) ∙ c.requires.place in
    let is : r ≡ option_map weight (live_at d.id es) = found-is d.id es c.args.place r ([], None) found (c.live_weight-replaced.ensures m held.read) in
    let action : Action = record { kind = c.args.kind; id = d.id; routing = d.routing; source = c.args.source } in
    refused-puts m action d.root old old c.refused.result (record { number = 26; path = [] }) c.refused.ensures refl
    (put-conflict action d.root es c.conflicts.result r is (c.conflicts.ensures ∙ ap (λ (b : Bool). is_create c.args.kind && b) c.is_some.ensures) c.if-conflicts.true)

pub overflow_sub-beside : goal.overflow_sub-beside
overflow_sub-beside c =
    let m = c.requires.loading.0 in
    let held = c.requires.loading.1 in
    let d = c.args.document in
    let es = store_of m c.args.self.now in
    let r = c.live_weight-replaced.result in
    let found : place_of d.id (ids es) ≡ Some c.args.place = ap (place_of d.id) (ids-are m c.args.self.now.slots) ∙ c.requires.place in
    let is : r ≡ option_map weight (live_at d.id es) = found-is d.id es c.args.place r ([], None) found (c.live_weight-replaced.ensures m held.read) in
    let all = held.weight in
    omega (arith, all, c.unwrap_or.ensures, replaced-within d.id es r is)

pub returns-then-weight-ge-WEIGHT_LIMIT : goal.returns-then-weight-ge-WEIGHT_LIMIT
returns-then-weight-ge-WEIGHT_LIMIT c = λ m held read.
    let d = c.args.document in
    let old = c.args.self.now in
    let es = store_of m old in
    let r = c.live_weight-replaced.result in
    let found : place_of d.id (ids es) ≡ Some c.args.place = ap (place_of d.id) (ids-are m c.args.self.now.slots) ∙ c.requires.place in
    let is : r ≡ option_map weight (live_at d.id es) = found-is d.id es c.args.place r ([], None) found (c.live_weight-replaced.ensures m held.read) in
    let action : Action = record { kind = c.args.kind; id = d.id; routing = d.routing; source = c.args.source } in
    let counted = put-weight d.id es d r old.weight c.unwrap_or.result c.weight_of-added.result c.saturating_add-weight.result is held.weight c.unwrap_or.ensures c.weight_of-added.ensures c.saturating_add-weight.ensures in
    refused-puts m action d.root old old _ (record { number = 28; path = [] }) c.refused-then-weight-ge-WEIGHT_LIMIT.ensures refl
    (put-full action d.root es c.conflicts.result r c.saturating_add-weight.result is (c.conflicts.ensures ∙ ap (λ (b : Bool). is_create c.args.kind && b) c.is_some.ensures) c.if-conflicts.false counted c.if-weight-ge-WEIGHT_LIMIT.true)

pub returns-in-Some : goal.returns-in-Some
returns-in-Some c = λ m held read.
    let d = c.args.document in
    let old = c.args.self.now in
    let r = c.live_weight-replaced.result in
    let action : Action = record { kind = c.args.kind; id = d.id; routing = d.routing; source = c.args.source } in
    let at : place_of d.id (ids (store_of m old)) ≡ Some c.args.place = ap (place_of d.id) (ids-are m c.args.self.now.slots) ∙ c.requires.place in
    let is : r ≡ option_map weight (live_at d.id (store_of m old)) = found-is d.id (store_of m old) c.args.place r ([], None) at (c.live_weight-replaced.ensures m held.read) in
    let put = put-again m old c.replace.new.self action d.root held read c.args.place c.requires.place c.conflicts.result r c.unwrap_or.result c.weight_of-added.result c.saturating_add-weight.result is
    (c.conflicts.ensures ∙ ap (λ (b : Bool). is_create c.args.kind && b) c.is_some.ensures) c.if-conflicts.false c.unwrap_or.ensures c.weight_of-added.ensures c.saturating_add-weight.ensures c.if-weight-ge-WEIGHT_LIMIT.false c.other_routing.result c.other_routing.ensures
    c.in_ok-replace.ensures.slots c.in_ok-replace.ensures.weight c.in_ok-replace.ensures.drafts c.in_ok-replace.ensures.shards in
    subst (λ (o : Option ℕ). Puts m action d.root old c.replace.new.self (Ok (if is_some o then Updated else Created))) c.in-Some.is put

pub returns : goal.returns
returns c = λ m held read.
    let d = c.args.document in
    let old = c.args.self.now in
    let r = c.live_weight-replaced.result in
    let action : Action = record { kind = c.args.kind; id = d.id; routing = d.routing; source = c.args.source } in
    let at : place_of d.id (ids (store_of m old)) ≡ Some c.args.place = ap (place_of d.id) (ids-are m c.args.self.now.slots) ∙ c.requires.place in
    let is : r ≡ option_map weight (live_at d.id (store_of m old)) = found-is d.id (store_of m old) c.args.place r ([], None) at (c.live_weight-replaced.ensures m held.read) in
    let put = put-again m old c.replace.new.self action d.root held read c.args.place c.requires.place c.conflicts.result r c.unwrap_or.result c.weight_of-added.result c.saturating_add-weight.result is
    (c.conflicts.ensures ∙ ap (λ (b : Bool). is_create c.args.kind && b) c.is_some.ensures) c.if-conflicts.false c.unwrap_or.ensures c.weight_of-added.ensures c.saturating_add-weight.ensures c.if-weight-ge-WEIGHT_LIMIT.false c.other_routing.result c.other_routing.ensures
    c.in_ok-replace.ensures.slots c.in_ok-replace.ensures.weight c.in_ok-replace.ensures.drafts c.in_ok-replace.ensures.shards in
    subst (λ (o : Option ℕ). Puts m action d.root old c.replace.new.self (Ok (if is_some o then Updated else Created))) c.in-None.is put
