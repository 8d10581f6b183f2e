use Rattle.std.proofs.Common.{◌≡◌, List, sym, ◌∙◌, ap, subst}
use Rattle.std.specs.Prelude.{IfOk}
use Rattle.agg_model.specs.declared.row.Document.{Document}
use Rattle.agg_reading.specs.Store.{live_documents, shards_of}
use Rattle.agg_documents.specs.Shards.{cut}
use Rattle.agg_documents.proofs.Dealing.{shards-cut}
use Rattle.column_loading.specs.Drafts.{AreDraftsOf, AreGrowing, AreLight}
use Rattle.column_loading.specs.Loadings.{AreRead, entries_of, store_of}
use Rattle.column_loading.specs.declared.slot.Slot.{Slot}
use Rattle.column_loading.proofs.Loaded.{live-light}
use Rattle.column_loading.proofs.loading.Loading.into_drafts.Goals as goal

pub returns-in-Some : goal.returns-in-Some
returns-in-Some c =
    let m = c.args.mapping.now in
    let held = c.requires.loading in
    let es = store_of m c.args.self in
    subst (λ (ls : List (List Document)). AreDraftsOf m ls c.in-Some.drafts.items) (sym (shards-cut es c.args.self.shards))
    (subst (AreGrowing m (live_documents es) c.args.self.shards) c.in-Some.is held.growing)

pub read_again-requires : goal.read_again-requires
read_again-requires c =
    let m = c.args.mapping.now in
    let held = c.requires.loading in
    let same = sym (c.as_slice.ensures.value ∙ c.in_ok-into_slots-in-None.ensures) in
    record {
      ordered = c.requires.ordered;
      few = held.few;
      paths = held.paths;
      some = held.some;
      read = subst (AreRead m) same held.read;
      light = subst (λ (ss : List Slot). AreLight m (live_documents (entries_of m ss))) same (live-light m c.args.self held);
    }

pub returns-in_ok-into_slots-in-None : goal.returns-in_ok-into_slots-in-None
returns-in_ok-into_slots-in-None c =
    let m = c.args.mapping.now in
    let es = store_of m c.args.self in
    let n = c.args.self.shards in
    let same : cut (live_documents (entries_of m c.as_slice.result.now)) n ≡ shards_of es n = ap (λ (ss : List Slot). cut (live_documents (entries_of m ss)) n) (c.as_slice.ensures.value ∙ c.in_ok-into_slots-in-None.ensures) ∙ sym (shards-cut es n) in
    subst (λ (ls : List (List Document)). IfOk c.read_again.result (λ drafts. AreDraftsOf m ls drafts.items)) same c.read_again.ensures
