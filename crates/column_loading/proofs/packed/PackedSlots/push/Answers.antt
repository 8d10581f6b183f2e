use Rattle.std.proofs.Common.{◌≡◌, ◌++◌, ◌∷◌, [], ℕ, Bool, true, List, if◌then◌else◌, length, refl, take, sym, ◌∙◌, ap, arith, rules}
use Rattle.std.specs.Result.{is_ok}
use Rattle.std.proofs.lemmas.List.{take_at}
use Rattle.column_loading.specs.Packed.{routing_in, slots_of}
use Rattle.column_loading.specs.Slots.{live_slot}
use Rattle.column_loading.specs.declared.slot.Slot.{Slot}
use Rattle.column_loading.proofs.Packing.{AreAsBefore, slots-more, slots-same}
use Rattle.column_loading.proofs.packed.PackedSlots.push.Goals as goal
use Rattle.column_loading.proofs.packed.PackedSlots.push.Goals.{After-route}

-- the place behind the weights
place : (c : After-route) → c.len-place.result ≡ length c.self.inside.weights.items
place c = c.len-place.ensures ∙ c.self.inside.weights.ok.0

as-before : (c : After-route) → AreAsBefore (routing_in c.self.inside.routings) (routing_in c.route.new.routings) c.self.inside.weights.items
as-before c other low = c.route.ensures.others other (λ same. absurd (omega (arith, same, low, place c)))

-- with other routings alone they are as they were
same : (c : After-route) (ids sources : List (List ℕ)) → ids ≡ c.self.inside.ids → sources ≡ c.self.inside.sources → slots_of (routing_in c.route.new.routings) ids sources c.reserve.new.self.items ≡ c.args.self.now
same c ids sources ids_are sources_are =
    let inside = c.self.inside in
    (slots-same (routing_in inside.routings) (routing_in c.route.new.routings) inside.ids ids inside.sources sources inside.weights.items c.reserve.new.self.items c.self.invariant ids_are sources_are c.reserve.ensures.items (as-before c)).0 ∙ c.self.view_is

pub returns-in_err-route-clause-memory : goal.returns-in_err-route-clause-memory
returns-in_err-route-clause-memory c =
    let as_before = same (goal.at.returns-in_err-route-clause-memory c).After-route c.self.inside.ids c.self.inside.sources refl refl in
    search (rules, as_before)

pub returns-in_err-push-clause-memory : goal.returns-in_err-push-clause-memory
returns-in_err-push-clause-memory c =
    let as_before = same (goal.at.returns-in_err-push-clause-memory c).After-route c.self.inside.ids c.push.new.self refl c.in_err-push.ensures.memory in
    search (rules, as_before)

pub returns-clause-memory : goal.returns-clause-memory
returns-clause-memory c =
    let at = (goal.at.returns-clause-memory c).After-route in
    let sources = c.self.inside.sources in
    let here : c.len-place.result ≡ length sources = omega (arith, place at, c.self.invariant.has_sources) in
    let added = c.in_ok-push.ensures.added in
    let cut = c.truncate.ensures ∙ (ap (λ (ss : List (List ℕ)). take c.len-place.result ss) added ∙ take_at sources (c.as_slice.result.now ∷ []) c.len-place.result (sym here)) in
    same at c.push-2.new.self c.truncate.new.self c.in-Err.ensures.memory cut

-- what is made where there is room
made : {X : Type 0} (b : Bool) (new more less : X) → new ≡ (if b then more else less) → b ≡ true → new ≡ more
made b new more less is fits = is ∙ ap (λ (fit : Bool). if fit then more else less) fits

pub returns-in-Ok-clause-slots : goal.returns-in-Ok-clause-slots
returns-in-Ok-clause-slots c =
    let at = (goal.at.returns-in-Ok-clause-slots c).After-route in
    let inside = c.self.inside in
    let after = routing_in c.route.new.routings in
    let weights = made (is_ok c.push-in-Ok.result) _ _ _ c.push-in-Ok.ensures.items (c.push-in-Ok.ensures.succeeds (let room = c.in_ok-reserve.ensures.ok in omega (arith, room))) ∙ ap (λ (ws : List ℕ). ws ++ c.args.kept.weight ∷ []) c.reserve.ensures.items in
    let sources = c.in_ok-push.ensures.added ∙ ap (λ (source : List ℕ). inside.sources ++ source ∷ []) c.as_slice.ensures in
    let routed = ap after (sym (place at)) ∙ c.in_ok-route.ensures.routing in
    (slots-more (routing_in inside.routings) after inside.ids c.push-2.new.self inside.sources c.push.new.self inside.weights.items c.push-in-Ok.new.self.items c.args.kept.routing c.args.id.now c.args.kept.source c.args.kept.weight c.self.invariant c.in-Ok.ensures.added sources weights (as-before at) routed).0
    ∙ ap (λ (ss : List Slot). ss ++ live_slot c.args.id.now c.args.kept ∷ []) c.self.view_is
