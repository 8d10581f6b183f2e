use Rattle.std.proofs.Common.{◌≡◌, ◌∷◌, ◌++◌, ◌+◌, ℕ, [], List, None, Some, take, length, sym, ◌∙◌, ap, subst, arith}
use Rattle.std.specs.Prelude.{IfSome, Option, Vec}
use Rattle.std.specs.declared.alloc.Global.{Global}
use Rattle.std.proofs.lemmas.List.{append-nil}
use Rattle.agg_model.specs.declared.row.Document.{Document}
use Rattle.agg_reading.specs.Store.{live_documents}
use Rattle.agg_documents.specs.Shards.{cut}
use Rattle.agg_documents.proofs.Dealing.{length-cut}
use Rattle.shard_columns.specs.declared.draft.ShardDraft.{ShardDraft}
use Rattle.shard_columns.proofs.Laying.{take-next}
use Rattle.column_loading.specs.Drafts.{AreDraftsOf, AreLight}
use Rattle.column_loading.specs.Loadings.{IsRead, entries_of}
use Rattle.column_loading.specs.declared.slot.Kept.{Kept}
use Rattle.column_loading.proofs.Reread.{live-none, live-next, light-first, not-some}
use Rattle.column_loading.proofs.Placed.{read-at}
use Rattle.column_loading.proofs.again.read_again.Goals as goal
use Rattle.column_loading.proofs.again.read_again.Goals.{in-Some+in_ok-document+in_ok-deal, in_default}

pub loop-slot-init : goal.loop-slot-init
loop-slot-init c = subst (λ (ds : List Document). AreDraftsOf c.args.mapping.now (cut ds c.args.shards) c.in_ok-drafts.drafts.items) (sym (live-none c.args.mapping.now)) c.in_ok-drafts.ensures

pub document_again-requires-clause-read : goal.document_again-requires-clause-read
document_again-requires-clause-read c =
    subst (λ (o : Option Kept). IfSome o (IsRead c.args.mapping.now)) c.in-Some.is (read-at c.args.mapping.now c.args.slots.now c.loop-slot.slot-index c.slot-item.result c.loop-slot-test.true c.slot-item.is c.requires.read)

pub deal-requires : goal.deal-requires
deal-requires c =
    let m = c.args.mapping.now in
    let slots = c.args.slots.now in
    let k = c.loop-slot.slot-index in
    let s = c.slot-item.result in
    let so_far = live_documents (entries_of m (take k slots)) in
    let are = c.loop-slot.invariant in
    let size : c.args.shards ≡ length c.loop-slot.drafts.items = sym (are.sizes ∙ length-cut so_far c.args.shards) in
    let next : take (k + 1) slots ≡ take k slots ++ s ∷ [] = take-next slots k s c.loop-slot-test.true c.slot-item.is in
    let more : live_documents (entries_of m (take (k + 1) slots)) ≡ so_far ++ c.in_ok-document.document ∷ [] =
    live-next m slots k s (Some c.in-Some.kept) next c.in-Some.is ∙ ap (λ (d : Document). so_far ++ d ∷ []) (sym c.in_ok-document.ensures) in
    record {
      some = omega (arith, size, c.requires.some);
      few = omega (arith, size);
      room = (m, (so_far, (subst (λ (n : ℕ). AreDraftsOf m (cut so_far n) c.loop-slot.drafts.items) size are, subst (AreLight m) more (light-first m slots (k + 1) c.requires.light))));
    }

pub loop-slot-preserved : goal.loop-slot-preserved
loop-slot-preserved c =
    let m = c.args.mapping.now in
    let slots = c.args.slots.now in
    let k = c.loop-slot.slot-index in
    let s = c.slot-item.result in
    let n = c.args.shards in
    let so_far = live_documents (entries_of m (take k slots)) in
    let are = c.loop-slot.invariant in
    let next : take (k + 1) slots ≡ take k slots ++ s ∷ [] = take-next slots k s c.loop-slot-test.true c.slot-item.is in
    elim c.match-slot.branch [
      | in-Some+in_ok-document+in_ok-deal w ↦
          let size : n ≡ length c.loop-slot.drafts.items = sym (are.sizes ∙ length-cut so_far n) in
          let more : live_documents (entries_of m (take (k + 1) slots)) ≡ so_far ++ w.in_ok-document.document ∷ [] =
          live-next m slots k s (Some w.in-Some.kept) next w.in-Some.is ∙ ap (λ (d : Document). so_far ++ d ∷ []) (sym w.in_ok-document.ensures) in
          let dealt = w.in_ok-deal.ensures m so_far (subst (λ (j : ℕ). AreDraftsOf m (cut so_far j) c.loop-slot.drafts.items) size are) (subst (AreLight m) more (light-first m slots (k + 1) c.requires.light)) in
          subst (λ (ds : Vec ShardDraft Global). AreDraftsOf m (cut (live_documents (entries_of m (take (k + 1) slots))) n) ds.items) (sym w.drafts-is)
          (subst (λ (ds : List Document). AreDraftsOf m (cut ds n) w.deal.new.drafts.items) (sym more)
          (subst (λ (j : ℕ). AreDraftsOf m (cut (so_far ++ w.in_ok-document.document ∷ []) j) w.deal.new.drafts.items) (sym size) dealt))
      | in_default w ↦
          let none : s.live ≡ None = not-some s.live w.in_default.not-Some in
          let same : live_documents (entries_of m (take (k + 1) slots)) ≡ so_far = live-next m slots k s None next none ∙ append-nil so_far in
          subst (λ (ds : Vec ShardDraft Global). AreDraftsOf m (cut (live_documents (entries_of m (take (k + 1) slots))) n) ds.items) (sym w.drafts-is)
          (subst (λ (ds : List Document). AreDraftsOf m (cut ds n) c.loop-slot.drafts.items) (sym same) are)
    ]
