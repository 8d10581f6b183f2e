use Rattle.std.proofs.Common.{rules, ◌≡◌, refl, ℕ, ◌+◌, ◌-◌, ◌^◌, min, Bool, true, false, List, [], ◌∷◌, ◌++◌, Option, None, Some, if◌then◌else◌, length, sym, ◌∙◌, ap, subst, arith}
use Rattle.std.specs.BTreeMap.{get_by_text}
use Rattle.std.specs.BTreeMap.Entry.{map_with_value}
use Rattle.std.specs.List.{IsDistinct}
use Rattle.std.specs.Map.{update}
use Rattle.std.specs.Result.{is_ok}
use Rattle.std.specs.Str.{bytes_eq}
use Rattle.std.specs.String.{string_bytes}
use Rattle.std.proofs.lemmas.Map.Text.{btree_map_updates_text}
use Rattle.agg_model.specs.declared.row.Document.{Document}
use Rattle.agg_reading.specs.Store.{Store, live_documents, put_row, store_weight, with_document}
use Rattle.document_rows.specs.Faults.{Fails}
use Rattle.document_rows.specs.declared.fault.ItemFault.{ItemFault}
use Rattle.agg_documents.specs.declared.slot.Slot.{Slot}
use Rattle.agg_documents.specs.declared.slot.Slot.TheVariants.{Live}
use Rattle.agg_documents.specs.Slots.{entries_of, ids, place_of}
use Rattle.agg_documents.proofs.Entries.{count-weight}
use Rattle.agg_documents.proofs.Places.{places-push, apart-push, entries-push}
use Rattle.agg_documents.proofs.Putting.{new-is, never_create, put-weight, put-new, put-full, put-done}
use Rattle.agg_documents.proofs.store.Store.put.Goals as goal

pushed_items : (b : Bool) (old new before : List Slot) (s : Slot) → new ≡ (if b then old ++ s ∷ [] else old) → b ≡ true → old ≡ before → new ≡ before ++ s ∷ []
pushed_items b old new before s is fits same = is ∙ (ap (λ (c : Bool). if c then old ++ s ∷ [] else old) fits ∙ ap (λ (slots : List Slot). slots ++ s ∷ []) same)

pub returns-in-None-clause-put : goal.returns-in-None-clause-put
returns-in-None-clause-put c =
    let es = c.args.self.now in
    let document : Document = record { id = c.args.action.id; routing = c.args.action.routing; root = c.args.root } in
    let new : place_of c.args.action.id (ids es) ≡ None = sym (c.in-None.ensures ∙ ap (λ (id : List ℕ). place_of id (ids es)) c.as_str.ensures) in
    let all : c.self.inside.weight ≡ store_weight es = c.self.invariant.weight ∙ ap store_weight c.self.view_is in
    let counted : c.saturating_add-total.result ≡ min (store_weight (with_document c.args.action.id (Some document) es)) (2 ^ 64 - 1) =
    put-weight c.args.action.id es document None c.self.inside.weight 0 c.row_weight.result c.saturating_add-total.result
    (new-is c.args.action.id es new) all refl c.row_weight.ensures (omega (arith, c.saturating_add-total.ensures)) in
    subst (λ (f : ItemFault). Fails f (put_row c.args.action c.args.root es)) (sym c.refused.ensures)
    (put-full c.args.action c.args.root es false None c.saturating_add-total.result (new-is c.args.action.id es new) (never_create c.args.action.kind) refl counted c.if-total-ge-WEIGHT_LIMIT.true)

pub overflow_add-self : goal.overflow_add-self
overflow_add-self c =
    omega (arith, c.self.invariant.live, c.self.invariant.weight, c.self.invariant.light, count-weight (entries_of c.self.inside.slots.items))

pub invariant_of-self-in-Vacant-1 : goal.invariant_of-self-in-Vacant-1
invariant_of-self-in-Vacant-1 c =
    let slots = c.self.inside.slots.items in
    let document : Document = record { id = c.args.action.id; routing = c.args.action.routing; root = c.args.root } in
    let key_is : string_bytes c.in_ok-key.key ≡ c.args.action.id = c.in_ok-key.ensures.ok ∙ c.as_str-2.ensures in
    let none : get_by_text c.self.inside.places (string_bytes c.in_ok-key.key) ≡ None = rw c.in-Ok-Vacant.field-0-is at c.in-Ok-Vacant.ensures.found in
    let new : place_of c.args.action.id (ids (entries_of slots)) ≡ None = sym (c.self.invariant.places c.args.action.id) ∙ (ap (get_by_text c.self.inside.places) (sym key_is) ∙ none) in
    let pushed : c.push.new.self.items ≡ slots ++ Live document ∷ [] =
    pushed_items (is_ok c.push.result) c.reserve.new.self.items c.push.new.self.items slots (Live document) c.push.ensures.items (c.push.ensures.succeeds (omega (arith, c.in_ok-reserve.ensures.ok))) c.reserve.ensures.items in
    let placed : entries_of c.push.new.self.items ≡ with_document c.args.action.id (Some document) (entries_of slots) = ap entries_of pushed ∙ entries-push slots (Live document) new in
    let kept : c.self-in-Ok-Vacant-2-1.given.0 ≡ map_with_value c.in-Ok-Vacant.field-0 c.len-place.result = search rules in
    let last : c.len-place.result ≡ length slots = omega (arith, c.len-place.ensures, c.reserve.ensures.len, c.self.inside.slots.ok.0) in
    let next : (j : List ℕ) → get_by_text c.self-in-Ok-Vacant-2-1.given.0 j ≡ update bytes_eq (get_by_text c.self.inside.places) c.args.action.id (Some (length slots)) j = λ j.
    ap (λ m. get_by_text m j) kept
    ∙ (btree_map_updates_text (string_bytes c.in_ok-key.key) c.self.inside.places (map_with_value c.in-Ok-Vacant.field-0 c.len-place.result) (Some c.len-place.result) (c.in-Ok-Vacant.ensures.update.0 c.len-place.result) j
    ∙ (ap (λ (id : List ℕ). update bytes_eq (get_by_text c.self.inside.places) id (Some c.len-place.result) j) key_is
    ∙ ap (λ (n : ℕ). update bytes_eq (get_by_text c.self.inside.places) c.args.action.id (Some n) j) last)) in
    let counted : c.saturating_add-total.result ≡ min (store_weight (with_document c.args.action.id (Some document) (entries_of slots))) (2 ^ 64 - 1) =
    put-weight c.args.action.id (entries_of slots) document None c.self.inside.weight 0 c.row_weight.result c.saturating_add-total.result
    (new-is c.args.action.id (entries_of slots) new) c.self.invariant.weight refl c.row_weight.ensures (omega (arith, c.saturating_add-total.ensures)) in
    let exact : c.saturating_add-total.result ≡ store_weight (with_document c.args.action.id (Some document) (entries_of slots)) = omega (arith, counted, c.if-total-ge-WEIGHT_LIMIT.false) in
    record {
      places = λ id. places-push slots (Live document) new (get_by_text c.self.inside.places) (get_by_text c.self-in-Ok-Vacant-2-1.given.0) c.self.invariant.places next id
          ∙ ap (λ (ss : List Slot). place_of id (ids (entries_of ss))) (sym pushed);
      distinct = subst (λ (ss : List Slot). IsDistinct bytes_eq (ids (entries_of ss))) (sym pushed) (apart-push slots (Live document) new c.self.invariant.distinct);
      live = put-new c.args.action.id (entries_of slots) document c.self.inside.live (new-is c.args.action.id (entries_of slots) new) c.self.invariant.live ∙ ap (λ (es : Store). length (live_documents es)) (sym placed);
      weight = exact ∙ ap store_weight (sym placed);
      light = c.if-total-ge-WEIGHT_LIMIT.false;
    }

pub returns-in-Ok-Vacant-clause-put : goal.returns-in-Ok-Vacant-clause-put
returns-in-Ok-Vacant-clause-put c =
    let slots = c.self.inside.slots.items in
    let document : Document = record { id = c.args.action.id; routing = c.args.action.routing; root = c.args.root } in
    let key_is : string_bytes c.in_ok-key.key ≡ c.args.action.id = c.in_ok-key.ensures.ok ∙ c.as_str-2.ensures in
    let none : get_by_text c.self.inside.places (string_bytes c.in_ok-key.key) ≡ None = rw c.in-Ok-Vacant.field-0-is at c.in-Ok-Vacant.ensures.found in
    let new : place_of c.args.action.id (ids (entries_of slots)) ≡ None = sym (c.self.invariant.places c.args.action.id) ∙ (ap (get_by_text c.self.inside.places) (sym key_is) ∙ none) in
    let pushed : c.push.new.self.items ≡ slots ++ Live document ∷ [] =
    pushed_items (is_ok c.push.result) c.reserve.new.self.items c.push.new.self.items slots (Live document) c.push.ensures.items (c.push.ensures.succeeds (omega (arith, c.in_ok-reserve.ensures.ok))) c.reserve.ensures.items in
    let placed : entries_of c.push.new.self.items ≡ with_document c.args.action.id (Some document) (entries_of slots) = ap entries_of pushed ∙ entries-push slots (Live document) new in
    let counted : c.saturating_add-total.result ≡ min (store_weight (with_document c.args.action.id (Some document) (entries_of slots))) (2 ^ 64 - 1) =
    put-weight c.args.action.id (entries_of slots) document None c.self.inside.weight 0 c.row_weight.result c.saturating_add-total.result
    (new-is c.args.action.id (entries_of slots) new) c.self.invariant.weight refl c.row_weight.ensures (omega (arith, c.saturating_add-total.ensures)) in
    let exact : c.saturating_add-total.result ≡ store_weight (with_document c.args.action.id (Some document) (entries_of slots)) = omega (arith, counted, c.if-total-ge-WEIGHT_LIMIT.false) in
    let now = ap (with_document c.args.action.id (Some document)) c.self.view_is in
    let new_now : place_of c.args.action.id (ids c.args.self.now) ≡ None = ap (λ (es : Store). place_of c.args.action.id (ids es)) (sym c.self.view_is) ∙ new in
    put-done c.args.action c.args.root c.args.self.now false None c.saturating_add-total.result (entries_of c.push.new.self.items) (new-is c.args.action.id c.args.self.now new_now) (never_create c.args.action.kind) refl
    (exact ∙ ap store_weight now) c.if-total-ge-WEIGHT_LIMIT.false (placed ∙ now)
