use Rattle.std.proofs.Common.{◌≡◌, ◌∙◌, None, Some, refl, sym, ap, subst}
use Rattle.std.specs.Prelude.{IfOk}
use Rattle.agg_documents.specs.Slots.{place_of}
use Rattle.agg_documents.proofs.Places.{new-live}
use Rattle.agg_documents.proofs.Putting.{deleted-new}
use Rattle.agg_model.specs.declared.bulk.Applied.TheVariants.{NotFound}
use Rattle.column_loading.specs.Loadings.{Deletes, DeletesId, IsLoading, store_of}
use Rattle.column_loading.specs.Slots.{slot_ids}
use Rattle.column_loading.specs.declared.loading.Loading.{Loading}
use Rattle.column_loading.proofs.Indexed.{ids-are}
use Rattle.column_loading.proofs.loading.Loading.delete.Goals as goal

pub delete_at-requires : goal.delete_at-requires
delete_at-requires c =
    let old = c.args.self.now in
    let found : place_of c.args.id (slot_ids old.slots) ≡ Some c.in-Some.place = ap (λ id. place_of id (slot_ids old.slots)) (sym c.as_str.ensures) ∙ sym c.in_ok-standing.ensures.place ∙ c.in-Some.is in
    record {
      loading = subst IsLoading (sym c.in_ok-standing.ensures.same) c.requires;
      place = ap (λ (l : Loading). place_of c.args.id (slot_ids l.slots)) c.in_ok-standing.ensures.same ∙ found;
    }

pub returns-in-Some : goal.returns-in-Some
returns-in-Some c = subst (λ (l : Loading). IfOk c.delete_at.result (DeletesId c.args.id l c.delete_at.new.self)) c.in_ok-standing.ensures.same c.delete_at.ensures

pub returns-in-None : goal.returns-in-None
returns-in-None c = λ m held.
    let id = c.args.id in
    let old = c.args.self.now in
    let es = store_of m old in
    let none : place_of id (slot_ids old.slots) ≡ None = ap (λ j. place_of j (slot_ids old.slots)) (sym c.as_str.ensures) ∙ sym c.in_ok-standing.ensures.place ∙ c.in-None.is in
    subst (λ (l : Loading). Deletes m id old l NotFound) (sym c.in_ok-standing.ensures.same)
    (record { deleted_is = deleted-new id es (new-live id es (ap (place_of id) (ids-are m old.slots) ∙ none)); loading = held; shards = refl })
