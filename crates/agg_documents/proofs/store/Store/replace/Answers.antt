use Rattle.std.proofs.Common.{◌≡◌, Some, List, ℕ, ◌<◌, set, length, sym, ◌∙◌, ap, subst}
use Rattle.std.specs.List.{IsDistinct}
use Rattle.std.specs.Str.{bytes_eq}
use Rattle.agg_reading.specs.Store.{Store, with_document, live_documents, store_weight}
use Rattle.agg_documents.specs.Slots.{id_of, document_in, entries_of, ids, place_of}
use Rattle.agg_documents.proofs.Places.{below, entries-set, ids-set}
use Rattle.agg_documents.proofs.store.Store.replace.Goals as goal

pub index_mut-requires : goal.index_mut-requires
index_mut-requires c =
    let found : place_of (id_of c.args.slot) (ids (entries_of c.self.inside.slots.items)) ≡ Some c.args.place = ap (λ (es : Store). place_of (id_of c.args.slot) (ids es)) c.self.view_is ∙ c.requires.place in
    subst (λ (n : ℕ). c.args.place < n) (sym c.self.inside.slots.ok.0) (below c.self.inside.slots.items c.args.slot c.args.place found)

pub invariant_of-self : goal.invariant_of-self
invariant_of-self c =
    let slots = c.self.inside.slots.items in
    let found : place_of (id_of c.args.slot) (ids (entries_of slots)) ≡ Some c.args.place = ap (λ (es : Store). place_of (id_of c.args.slot) (ids es)) c.self.view_is ∙ c.requires.place in
    let placed : entries_of (set slots c.args.place c.args.slot) ≡ with_document (id_of c.args.slot) (document_in c.args.slot) c.args.self.now =
    entries-set slots c.args.slot c.args.place found ∙ ap (with_document (id_of c.args.slot) (document_in c.args.slot)) c.self.view_is in
    let stay : ids (entries_of (set slots c.args.place c.args.slot)) ≡ ids (entries_of slots) = ids-set slots c.args.slot c.args.place found in
    record {
      places = λ id. c.self.invariant.places id ∙ ap (place_of id) (sym stay);
      distinct = subst (IsDistinct bytes_eq) (sym stay) c.self.invariant.distinct;
      live = c.requires.live ∙ ap (λ (es : Store). length (live_documents es)) (sym placed);
      weight = c.requires.weight ∙ ap store_weight (sym placed);
      light = c.requires.light;
    }

pub returns : goal.returns
returns c =
    let found : place_of (id_of c.args.slot) (ids (entries_of c.self.inside.slots.items)) ≡ Some c.args.place = ap (λ (es : Store). place_of (id_of c.args.slot) (ids es)) c.self.view_is ∙ c.requires.place in
    entries-set c.self.inside.slots.items c.args.slot c.args.place found ∙ ap (with_document (id_of c.args.slot) (document_in c.args.slot)) c.self.view_is
