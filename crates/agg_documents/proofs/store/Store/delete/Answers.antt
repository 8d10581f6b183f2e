use Rattle.std.proofs.Common.{◌≡◌, ℕ, List, [], Some, None, length, sym, ◌∙◌, ap}
use Rattle.std.specs.Option.{option_map}
use Rattle.agg_reading.specs.Store.{Store, live_at, live_documents, store_weight, weight}
use Rattle.agg_documents.specs.Slots.{ids, place_of}
use Rattle.agg_documents.proofs.Places.{new-live, found-below}
use Rattle.agg_documents.proofs.Putting.{found-is, gone-live, gone-weight, deleted-new, deleted-gone, deleted-live}
use Rattle.agg_documents.proofs.store.Store.delete.Goals as goal

pub returns-in_default : goal.returns-in_default
returns-in_default c =
    let new : place_of c.args.id (ids c.args.self.now) ≡ None = sym (c.in_default.ensures ∙ ap (λ (id : List ℕ). place_of id (ids c.args.self.now)) c.as_str.ensures) in
    deleted-new c.args.id c.args.self.now (new-live c.args.id c.args.self.now new)

pub live_weight-requires : goal.live_weight-requires
live_weight-requires c =
    let found : place_of c.args.id (ids c.args.self.now) ≡ Some c.in-Some.place = sym (c.in-Some.ensures ∙ ap (λ (id : List ℕ). place_of id (ids c.args.self.now)) c.as_str.ensures) in
    found-below c.args.id c.args.self.now c.in-Some.place found

pub overflow_sub-live : goal.overflow_sub-live
overflow_sub-live c =
    let found : place_of c.args.id (ids c.args.self.now) ≡ Some c.in-Some.place = sym (c.in-Some.ensures ∙ ap (λ (id : List ℕ). place_of id (ids c.args.self.now)) c.as_str.ensures) in
    let is : Some c.in-Some-live_weight.weight ≡ option_map weight (live_at c.args.id c.args.self.now) = found-is c.args.id c.args.self.now c.in-Some.place (Some c.in-Some-live_weight.weight) ([], None) found c.in-Some-live_weight.ensures in
    (gone-live c.args.id c.args.self.now c.in-Some-live_weight.weight c.self.inside.live is (c.self.invariant.live ∙ ap (λ (es : Store). length (live_documents es)) c.self.view_is)).0

pub overflow_sub-weight : goal.overflow_sub-weight
overflow_sub-weight c =
    let found : place_of c.args.id (ids c.args.self.now) ≡ Some c.in-Some.place = sym (c.in-Some.ensures ∙ ap (λ (id : List ℕ). place_of id (ids c.args.self.now)) c.as_str.ensures) in
    let is : Some c.in-Some-live_weight.weight ≡ option_map weight (live_at c.args.id c.args.self.now) = found-is c.args.id c.args.self.now c.in-Some.place (Some c.in-Some-live_weight.weight) ([], None) found c.in-Some-live_weight.ensures in
    (gone-weight c.args.id c.args.self.now c.in-Some-live_weight.weight c.self.inside.weight is (c.self.invariant.weight ∙ ap store_weight c.self.view_is)).0

pub replace-requires-clause-live : goal.replace-requires-clause-live
replace-requires-clause-live c =
    let found : place_of c.args.id (ids c.args.self.now) ≡ Some c.in-Some.place = sym (c.in-Some.ensures ∙ ap (λ (id : List ℕ). place_of id (ids c.args.self.now)) c.as_str.ensures) in
    let is : Some c.in-Some-live_weight.weight ≡ option_map weight (live_at c.args.id c.args.self.now) = found-is c.args.id c.args.self.now c.in-Some.place (Some c.in-Some-live_weight.weight) ([], None) found c.in-Some-live_weight.ensures in
    (gone-live c.args.id c.args.self.now c.in-Some-live_weight.weight c.self.inside.live is (c.self.invariant.live ∙ ap (λ (es : Store). length (live_documents es)) c.self.view_is)).1

pub replace-requires-clause-weight : goal.replace-requires-clause-weight
replace-requires-clause-weight c =
    let found : place_of c.args.id (ids c.args.self.now) ≡ Some c.in-Some.place = sym (c.in-Some.ensures ∙ ap (λ (id : List ℕ). place_of id (ids c.args.self.now)) c.as_str.ensures) in
    let is : Some c.in-Some-live_weight.weight ≡ option_map weight (live_at c.args.id c.args.self.now) = found-is c.args.id c.args.self.now c.in-Some.place (Some c.in-Some-live_weight.weight) ([], None) found c.in-Some-live_weight.ensures in
    (gone-weight c.args.id c.args.self.now c.in-Some-live_weight.weight c.self.inside.weight is (c.self.invariant.weight ∙ ap store_weight c.self.view_is)).1

pub returns-in-None : goal.returns-in-None
returns-in-None c =
    let found : place_of c.args.id (ids c.args.self.now) ≡ Some c.in-Some.place = sym (c.in-Some.ensures ∙ ap (λ (id : List ℕ). place_of id (ids c.args.self.now)) c.as_str.ensures) in
    deleted-gone c.args.id c.args.self.now (found-is c.args.id c.args.self.now c.in-Some.place None ([], None) found c.in-None.ensures)

pub returns-in-Some-live_weight : goal.returns-in-Some-live_weight
returns-in-Some-live_weight c =
    let found : place_of c.args.id (ids c.args.self.now) ≡ Some c.in-Some.place = sym (c.in-Some.ensures ∙ ap (λ (id : List ℕ). place_of id (ids c.args.self.now)) c.as_str.ensures) in
    let is : Some c.in-Some-live_weight.weight ≡ option_map weight (live_at c.args.id c.args.self.now) = found-is c.args.id c.args.self.now c.in-Some.place (Some c.in-Some-live_weight.weight) ([], None) found c.in-Some-live_weight.ensures in
    deleted-live c.args.id c.args.self.now c.replace.new.self c.in-Some-live_weight.weight is c.replace.ensures
