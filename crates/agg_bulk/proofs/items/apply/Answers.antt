use Rattle.std.proofs.Common.{◌≡◌, ◌+◌, ◌++◌, ◌∷◌, ℕ, List, [], Ok, Err, sym, ◌∙◌, ap, length, arith}
use Rattle.std.proofs.lemmas.List.{length_push}
use Rattle.std.proofs.lemmas.Result.{on_ok_weaker}
use Rattle.agg_model.specs.declared.bulk.Action.{Action}
use Rattle.agg_model.specs.declared.bulk.Applied.{Applied}
use Rattle.agg_model.specs.declared.bulk.Applied.TheVariants.{Created}
use Rattle.agg_model.specs.declared.bulk.Item.{Item}
use Rattle.agg_model.specs.declared.bulk.ItemEnd.{ItemEnd}
use Rattle.agg_model.specs.declared.bulk.ItemEnd.TheVariants as end
use Rattle.agg_model.specs.declared.bulk.ItemRefusal.{ItemRefusal}
use Rattle.agg_reading.specs.Reading.{Reading}
use Rattle.agg_reading.specs.Script.{Loading, after, with_item}
use Rattle.agg_reading.specs.Store.{Store, applied}
use Rattle.agg_reading.specs.declared.fault.RequestFault.TheVariants.{Bad}
use Rattle.agg_reading.specs.declared.parts.IndexLine.{IndexLine}
use Rattle.agg_bulk.specs.Loading.{loading_of}
use Rattle.column_loading.specs.Loadings.{store_of}
use Rattle.bulk_items.specs.Items.{item_of, with_last_end}
use Rattle.bulk_items.proofs.Ending.{last-ends}
use Rattle.agg_bulk.proofs.items.apply.Goals as goal
use Rattle.agg_bulk.proofs.items.apply.Goals.{in-Ok, in-Err-Refused}

-- an item that is pushed with another end, and then told its own
module _ (action : Action) (index : IndexLine) (items pushed ended : List Item) (own other : ItemEnd) (push : pushed ≡ items ++ item_of action.kind action.id other ∷ []) (told : ended ≡ with_last_end own pushed) where
  is-told : ended ≡ items ++ item_of action.kind action.id own ∷ []
  is-told = told ∙ (ap (with_last_end own) push ∙ last-ends items action.kind action.id own other)

  one-more : (store new : Store) → with_item action own new (loading_of index store items) ≡ loading_of index new ended
  one-more store new =
      let item = item_of action.kind action.id own in
      let one : length items + 1 ≡ length (items ++ item ∷ []) = sym (length_push items item) in
      let counted : with_item action own new (loading_of index store items) ≡ loading_of index new (items ++ item ∷ []) = ap (λ (n : ℕ). let l : Loading = record { index = index; store = new; items = items ++ item ∷ []; actions = n } in l) one in
      counted ∙ ap (loading_of index new) (sym is-told)

  module _ (read : Reading (Applied × Store)) (store new : Store) where
    -- of an action that did something
    applied-more : (what : Applied) → read ≡ Ok (what, new) → own ≡ end.Applied what → after action read (loading_of index store items) ≡ loading_of index new ended
    applied-more what is ends =
        ap (λ (r : Reading (Applied × Store)). after action r (loading_of index store items)) is
        ∙ (ap (λ (e : ItemEnd). with_item action e new (loading_of index store items)) (sym ends) ∙ one-more store new)

    -- of an action that was refused
    refused-more : (refusal : ItemRefusal) → read ≡ Err (Bad refusal.number refusal.path) → own ≡ end.Refused refusal → new ≡ store → after action read (loading_of index store items) ≡ loading_of index new ended
    refused-more refusal is ends same =
        ap (λ (r : Reading (Applied × Store)). after action r (loading_of index store items)) is
        ∙ (ap (λ (e : ItemEnd). with_item action e store (loading_of index store items)) (sym ends)
        ∙ (one-more store store ∙ ap (λ (s : Store). loading_of index s ended) (sym same)))

pub set_last_end-requires : goal.set_last_end-requires
set_last_end-requires c =
    let item = item_of c.args.action.kind c.as_str.result.now (end.Applied Created) in
    omega (arith, ap (λ (is : List Item). length is) c.in_ok-push.ensures.items, length_push c.args.items.now item)

pub returns-clause-after : goal.returns-clause-after
returns-clause-after c =
    on_ok_weaker c.set_last_end.result (λ told index.
    let action = c.args.action in
    let items = c.args.items.now in
    let m = c.args.mapping.now in
    let created = end.Applied Created in
    let push : c.push.new.self ≡ items ++ item_of action.kind action.id created ∷ [] = c.in_ok-push.ensures.items ∙ ap (λ (id : List ℕ). items ++ item_of action.kind id created ∷ []) c.as_str.ensures in
    let old = store_of m c.args.loading.now in
    let read = applied m action old in
    let new = store_of m c.apply_with.new.self in
    elim c.match-apply_with.branch [
      | in-Ok w ↦ applied-more action index items c.push.new.self c.set_last_end.new.self c.match-apply_with.end created push told read old new w.in-Ok.applied w.in-Ok.ensures.applied w.end-is
      | in-Err-Refused w ↦
          let fault = rw w.in-Err-Refused.field-0-is at w.in-Err-Refused.ensures in
          refused-more action index items c.push.new.self c.set_last_end.new.self c.match-apply_with.end created push told read old new w.in-Err-Refused.refusal fault.applied w.end-is (ap (store_of m) fault.as_before)
    ]) c.set_last_end.ensures.items
