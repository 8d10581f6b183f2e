use Rattle.std.proofs.Common.{◌+◌, List, [], ◌∷◌, ◌++◌, sym, subst}
use Rattle.agg_model.specs.declared.row.Document.{Document}
use Rattle.agg_documents.specs.Shards.{cut}
use Rattle.agg_documents.proofs.Dealing.{none-more}
use Rattle.shard_columns.specs.declared.draft.ShardDraft.{ShardDraft}
use Rattle.column_loading.specs.Drafts.{AreDraftsOf}
use Rattle.column_loading.proofs.Dealt.{drafts-none, drafts-push}
use Rattle.column_loading.proofs.drafts.empty_drafts.Goals as goal

pub loop-shard-init : goal.loop-shard-init
loop-shard-init c = drafts-none c.args.mapping.now c.new-drafts.result.items c.new-drafts.ensures.items

pub loop-shard-preserved : goal.loop-shard-preserved
loop-shard-preserved c =
    let m = c.args.mapping.now in
    let n = c.loop-shard._shard in
    subst (λ (ds : List ShardDraft). AreDraftsOf m (cut [] (n + 1)) ds) (sym c.in_ok-push.ensures.items)
    (subst (λ (ls : List (List Document)). AreDraftsOf m ls (c.loop-shard.drafts.items ++ c.in_ok-new.field-0 ∷ [])) (sym (none-more n))
    (drafts-push m (cut [] n) c.loop-shard.drafts.items [] c.in_ok-new.field-0 c.loop-shard.invariant c.in_ok-new.ensures))
