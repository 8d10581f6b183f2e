use Rattle.std.proofs.Common.{◌≡◌, Some, None, sym, ◌∙◌, ap, subst}
use Rattle.agg_documents.specs.Slots.{place_of}
use Rattle.column_loading.specs.Loadings.{IsLoadingOf, PutsAll}
use Rattle.column_loading.specs.Slots.{is_behind, slot_ids}
use Rattle.column_loading.specs.declared.loading.Loading.{Loading}
use Rattle.column_loading.proofs.loading.Loading.put.Goals as goal

pub put_again-requires : goal.put_again-requires
put_again-requires c =
    let id = c.args.document.id in
    let old = c.args.self.now in
    let found : place_of id (slot_ids old.slots) ≡ Some c.in-Some.place = ap (λ j. place_of j (slot_ids old.slots)) (sym c.as_str.ensures) ∙ sym c.in_ok-standing.ensures.place ∙ c.in-Some.is in
    record {
      loading = (c.requires.0, subst (IsLoadingOf c.requires.0) (sym c.in_ok-standing.ensures.same) c.requires.1.0);
      place = ap (λ (l : Loading). place_of id (slot_ids l.slots)) c.in_ok-standing.ensures.same ∙ found;
    }

pub put_new-requires : goal.put_new-requires
put_new-requires c =
    let id = c.args.document.id in
    let old = c.args.self.now in
    let none : place_of id (slot_ids old.slots) ≡ None = ap (λ j. place_of j (slot_ids old.slots)) (sym c.as_str.ensures) ∙ sym c.in_ok-standing.ensures.place ∙ c.in-None.is in
    record {
      loading = (c.requires.0, (subst (IsLoadingOf c.requires.0) (sym c.in_ok-standing.ensures.same) c.requires.1.0, c.requires.1.1));
      new = ap (λ (l : Loading). place_of id (slot_ids l.slots)) c.in_ok-standing.ensures.same ∙ none;
      last = λ known.
          ap (λ (l : Loading). is_behind id (slot_ids l.slots)) c.in_ok-standing.ensures.same
          ∙ (ap (λ j. is_behind j (slot_ids old.slots)) (sym c.as_str.ensures) ∙ c.in_ok-standing.ensures.last known);
    }

pub returns-in-Some : goal.returns-in-Some
returns-in-Some c = subst (λ (l : Loading). PutsAll c.args.kind c.args.document c.args.source l c.put_again.new.self c.put_again.result) c.in_ok-standing.ensures.same c.put_again.ensures

pub returns-in-None : goal.returns-in-None
returns-in-None c = subst (λ (l : Loading). PutsAll c.args.kind c.args.document c.args.source l c.put_new.new.self c.put_new.result) c.in_ok-standing.ensures.same (c.put_new.ensures c.args.kind)
