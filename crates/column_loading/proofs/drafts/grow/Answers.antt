use Rattle.std.proofs.Common.{◌≡◌, ◌∷◌, ◌++◌, ℕ, [], List, Option, Some, length, sym, ◌∙◌, subst, arith}
use Rattle.std.specs.Prelude.{Vec}
use Rattle.std.specs.declared.alloc.Global.{Global}
use Rattle.std.proofs.lemmas.Result.{on_ok_weaker}
use Rattle.agg_model.specs.declared.mapping.Mapping.{Mapping}
use Rattle.agg_model.specs.declared.row.Document.{Document}
use Rattle.agg_documents.specs.Shards.{cut}
use Rattle.agg_documents.proofs.Dealing.{length-cut}
use Rattle.shard_columns.specs.declared.draft.ShardDraft.{ShardDraft}
use Rattle.column_loading.specs.Drafts.{AreDraftsOf, AreGrowing}
use Rattle.column_loading.proofs.drafts.grow.Goals as goal

-- as many drafts as shards
by-size : (m : Mapping) (documents : List Document) (shards : ℕ) (drafts : Vec ShardDraft Global) (o : Option (Vec ShardDraft Global)) → AreGrowing m documents shards o → o ≡ Some drafts →
    (shards ≡ length drafts.items) × AreDraftsOf m (cut documents shards) drafts.items
by-size m documents shards drafts o growing is =
    let are : AreDraftsOf m (cut documents shards) drafts.items = subst (AreGrowing m documents shards) is growing in
    (sym (are.sizes ∙ length-cut documents shards), are)

pub deal-requires : goal.deal-requires
deal-requires c =
    let given = c.requires in
    let drafts = c.in-Some.drafts in
    let sized = by-size given.mapping given.documents given.shards drafts c.args.drafts.now given.growing c.in-Some.is in
    let size = sized.0 in
    let some = given.some in
    let few = given.in_range in
    record {
      some = omega (arith, size, some);
      few = omega (arith, size, few);
      room = (given.mapping, (given.documents, (subst (λ (n : ℕ). AreDraftsOf given.mapping (cut given.documents n) drafts.items) size sized.1, given.light)));
    }

pub returns-in-Some : goal.returns-in-Some
returns-in-Some c = on_ok_weaker c.deal.result (λ deals m documents shards some growing light.
    let drafts = c.in-Some.drafts in
    let sized = by-size m documents shards drafts c.args.drafts.now growing c.in-Some.is in
    subst (λ (n : ℕ). AreDraftsOf m (cut (documents ++ c.args.document.now ∷ []) n) c.deal.new.drafts.items) (sym sized.0)
    (deals m documents (subst (λ (n : ℕ). AreDraftsOf m (cut documents n) drafts.items) sized.0 sized.1) light)) c.deal.ensures

pub returns-in-None : goal.returns-in-None
returns-in-None c = λ m documents shards some growing light. subst (AreGrowing m (documents ++ c.args.document.now ∷ []) shards) (sym c.in-None.is) tt
