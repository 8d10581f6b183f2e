use Rattle.std.proofs.Common.{◌≡◌, ℕ, Bool, [], None, ◌&&◌, Option, Some, Ok, if◌then◌else◌, length, sym, ◌∙◌, ap, subst, arith}
use Rattle.std.specs.Option.{is_some, option_map}
use Rattle.agg_model.specs.declared.row.Document.{Document}
use Rattle.agg_model.specs.declared.bulk.Applied.TheVariants.{Created, Updated}
use Rattle.agg_reading.specs.Store.{Store, is_create, live_at, live_documents, put_row, store_weight, weight, with_document}
use Rattle.document_rows.specs.Faults.{Fails}
use Rattle.document_rows.specs.declared.fault.ItemFault.{ItemFault}
use Rattle.agg_documents.proofs.Entries.{count-weight}
use Rattle.agg_documents.proofs.Places.{found-below}
use Rattle.agg_documents.proofs.Putting.{found-is, put-conflict, replaced-within, put-weight, put-live, put-new, put-full, put-done}
use Rattle.agg_documents.proofs.store.Store.put_again.Goals as goal

pub live_weight-replaced-requires : goal.live_weight-replaced-requires
live_weight-replaced-requires c = found-below c.args.action.id c.args.self.now c.args.place c.requires

pub returns-then-conflicts-clause-put : goal.returns-then-conflicts-clause-put
returns-then-conflicts-clause-put c =
    let is : c.live_weight-replaced.result ≡ option_map weight (live_at c.args.action.id c.args.self.now) = found-is c.args.action.id c.args.self.now c.args.place c.live_weight-replaced.result ([], None) c.requires c.live_weight-replaced.ensures in
    subst (λ (f : ItemFault). Fails f (put_row c.args.action c.args.root c.args.self.now)) (sym c.refused.ensures)
    (put-conflict c.args.action c.args.root c.args.self.now c.conflicts.result c.live_weight-replaced.result is
    (c.conflicts.ensures ∙ ap (λ (b : Bool). is_create c.args.action.kind && b) c.is_some.ensures) c.if-conflicts.true)

pub overflow_sub-beside : goal.overflow_sub-beside
overflow_sub-beside c =
    let is : c.live_weight-replaced.result ≡ option_map weight (live_at c.args.action.id c.args.self.now) = found-is c.args.action.id c.args.self.now c.args.place c.live_weight-replaced.result ([], None) c.requires c.live_weight-replaced.ensures in
    let all : c.self.inside.weight ≡ store_weight c.args.self.now = c.self.invariant.weight ∙ ap store_weight c.self.view_is in
    omega (arith, all, c.unwrap_or.ensures, replaced-within c.args.action.id c.args.self.now c.live_weight-replaced.result is)

pub returns-then-weight-ge-WEIGHT_LIMIT-clause-put :
    goal.returns-then-weight-ge-WEIGHT_LIMIT-clause-put
returns-then-weight-ge-WEIGHT_LIMIT-clause-put c =
    let is : c.live_weight-replaced.result ≡ option_map weight (live_at c.args.action.id c.args.self.now) = found-is c.args.action.id c.args.self.now c.args.place c.live_weight-replaced.result ([], None) c.requires c.live_weight-replaced.ensures in
    let document : Document = record { id = c.args.action.id; routing = c.args.action.routing; root = c.args.root } in
    let all : c.self.inside.weight ≡ store_weight c.args.self.now = c.self.invariant.weight ∙ ap store_weight c.self.view_is in
    let heavy = put-weight c.args.action.id c.args.self.now document c.live_weight-replaced.result c.self.inside.weight c.unwrap_or.result c.weight_of-added.result c.saturating_add-weight.result
    is all c.unwrap_or.ensures c.weight_of-added.ensures c.saturating_add-weight.ensures in
    subst (λ (f : ItemFault). Fails f (put_row c.args.action c.args.root c.args.self.now)) (sym c.refused-then-weight-ge-WEIGHT_LIMIT.ensures)
    (put-full c.args.action c.args.root c.args.self.now c.conflicts.result c.live_weight-replaced.result c.saturating_add-weight.result is
    (c.conflicts.ensures ∙ ap (λ (b : Bool). is_create c.args.action.kind && b) c.is_some.ensures) c.if-conflicts.false heavy c.if-weight-ge-WEIGHT_LIMIT.true)

pub replace-requires-clause-live : goal.replace-requires-clause-live
replace-requires-clause-live c =
    let is : c.live_weight-replaced.result ≡ option_map weight (live_at c.args.action.id c.args.self.now) = found-is c.args.action.id c.args.self.now c.args.place c.live_weight-replaced.result ([], None) c.requires c.live_weight-replaced.ensures in
    let document : Document = record { id = c.args.action.id; routing = c.args.action.routing; root = c.args.root } in
    put-live c.args.action.id c.args.self.now document c.in-Some.field-0 c.self.inside.live (sym c.in-Some.is ∙ is) (c.self.invariant.live ∙ ap (λ (es : Store). length (live_documents es)) c.self.view_is)

pub replace-requires-clause-weight : goal.replace-requires-clause-weight
replace-requires-clause-weight c =
    let is : c.live_weight-replaced.result ≡ option_map weight (live_at c.args.action.id c.args.self.now) = found-is c.args.action.id c.args.self.now c.args.place c.live_weight-replaced.result ([], None) c.requires c.live_weight-replaced.ensures in
    let document : Document = record { id = c.args.action.id; routing = c.args.action.routing; root = c.args.root } in
    let all : c.self.inside.weight ≡ store_weight c.args.self.now = c.self.invariant.weight ∙ ap store_weight c.self.view_is in
    let counted = put-weight c.args.action.id c.args.self.now document c.live_weight-replaced.result c.self.inside.weight c.unwrap_or.result c.weight_of-added.result c.saturating_add-weight.result
    is all c.unwrap_or.ensures c.weight_of-added.ensures c.saturating_add-weight.ensures in
    omega (arith, counted, c.if-weight-ge-WEIGHT_LIMIT.false)

pub returns-in-Some-clause-put : goal.returns-in-Some-clause-put
returns-in-Some-clause-put c =
    let is : c.live_weight-replaced.result ≡ option_map weight (live_at c.args.action.id c.args.self.now) = found-is c.args.action.id c.args.self.now c.args.place c.live_weight-replaced.result ([], None) c.requires c.live_weight-replaced.ensures in
    let document : Document = record { id = c.args.action.id; routing = c.args.action.routing; root = c.args.root } in
    let all : c.self.inside.weight ≡ store_weight c.args.self.now = c.self.invariant.weight ∙ ap store_weight c.self.view_is in
    let counted = put-weight c.args.action.id c.args.self.now document c.live_weight-replaced.result c.self.inside.weight c.unwrap_or.result c.weight_of-added.result c.saturating_add-weight.result
    is all c.unwrap_or.ensures c.weight_of-added.ensures c.saturating_add-weight.ensures in
    let exact : c.saturating_add-weight.result ≡ store_weight (with_document c.args.action.id (Some document) c.args.self.now) = omega (arith, counted, c.if-weight-ge-WEIGHT_LIMIT.false) in
    put-done c.args.action c.args.root c.args.self.now c.conflicts.result c.live_weight-replaced.result c.saturating_add-weight.result c.replace.new.self is
    (c.conflicts.ensures ∙ ap (λ (b : Bool). is_create c.args.action.kind && b) c.is_some.ensures) c.if-conflicts.false exact c.if-weight-ge-WEIGHT_LIMIT.false c.replace.ensures
    ∙ ap (λ (o : Option ℕ). Ok ((if is_some o then Updated else Created), c.replace.new.self)) c.in-Some.is

pub overflow_add-live : goal.overflow_add-live
overflow_add-live c =
    let live : c.self.inside.live ≡ length (live_documents c.args.self.now) = c.self.invariant.live ∙ ap (λ (es : Store). length (live_documents es)) c.self.view_is in
    let all : c.self.inside.weight ≡ store_weight c.args.self.now = c.self.invariant.weight ∙ ap store_weight c.self.view_is in
    omega (arith, live, all, c.self.invariant.light, count-weight c.args.self.now)

pub replace-requires-in-None-clause-live : goal.replace-requires-in-None-clause-live
replace-requires-in-None-clause-live c =
    let is : c.live_weight-replaced.result ≡ option_map weight (live_at c.args.action.id c.args.self.now) = found-is c.args.action.id c.args.self.now c.args.place c.live_weight-replaced.result ([], None) c.requires c.live_weight-replaced.ensures in
    let document : Document = record { id = c.args.action.id; routing = c.args.action.routing; root = c.args.root } in
    put-new c.args.action.id c.args.self.now document c.self.inside.live (sym c.in-None.is ∙ is) (c.self.invariant.live ∙ ap (λ (es : Store). length (live_documents es)) c.self.view_is)

pub replace-requires-in-None-clause-weight : goal.replace-requires-in-None-clause-weight
replace-requires-in-None-clause-weight c =
    let is : c.live_weight-replaced.result ≡ option_map weight (live_at c.args.action.id c.args.self.now) = found-is c.args.action.id c.args.self.now c.args.place c.live_weight-replaced.result ([], None) c.requires c.live_weight-replaced.ensures in
    let document : Document = record { id = c.args.action.id; routing = c.args.action.routing; root = c.args.root } in
    let all : c.self.inside.weight ≡ store_weight c.args.self.now = c.self.invariant.weight ∙ ap store_weight c.self.view_is in
    let counted = put-weight c.args.action.id c.args.self.now document c.live_weight-replaced.result c.self.inside.weight c.unwrap_or.result c.weight_of-added.result c.saturating_add-weight.result
    is all c.unwrap_or.ensures c.weight_of-added.ensures c.saturating_add-weight.ensures in
    omega (arith, counted, c.if-weight-ge-WEIGHT_LIMIT.false)

pub returns-clause-put : goal.returns-clause-put
returns-clause-put c =
    let is : c.live_weight-replaced.result ≡ option_map weight (live_at c.args.action.id c.args.self.now) = found-is c.args.action.id c.args.self.now c.args.place c.live_weight-replaced.result ([], None) c.requires c.live_weight-replaced.ensures in
    let document : Document = record { id = c.args.action.id; routing = c.args.action.routing; root = c.args.root } in
    let all : c.self.inside.weight ≡ store_weight c.args.self.now = c.self.invariant.weight ∙ ap store_weight c.self.view_is in
    let counted = put-weight c.args.action.id c.args.self.now document c.live_weight-replaced.result c.self.inside.weight c.unwrap_or.result c.weight_of-added.result c.saturating_add-weight.result
    is all c.unwrap_or.ensures c.weight_of-added.ensures c.saturating_add-weight.ensures in
    let exact : c.saturating_add-weight.result ≡ store_weight (with_document c.args.action.id (Some document) c.args.self.now) = omega (arith, counted, c.if-weight-ge-WEIGHT_LIMIT.false) in
    put-done c.args.action c.args.root c.args.self.now c.conflicts.result c.live_weight-replaced.result c.saturating_add-weight.result c.replace-in-None.new.self is
    (c.conflicts.ensures ∙ ap (λ (b : Bool). is_create c.args.action.kind && b) c.is_some.ensures) c.if-conflicts.false exact c.if-weight-ge-WEIGHT_LIMIT.false c.replace-in-None.ensures
    ∙ ap (λ (o : Option ℕ). Ok ((if is_some o then Updated else Created), c.replace-in-None.new.self)) c.in-None.is
