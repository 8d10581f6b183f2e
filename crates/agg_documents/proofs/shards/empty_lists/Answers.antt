use Rattle.std.proofs.Common.{List, [], ◌∷◌, ◌++◌, sym, ◌∙◌, ap}
use Rattle.agg_model.specs.declared.row.Document.{Document}
use Rattle.agg_documents.specs.Shards.{cut}
use Rattle.agg_documents.proofs.Dealing.{none-more}
use Rattle.agg_documents.proofs.shards.empty_lists.Goals as goal

pub loop-shard-preserved : goal.loop-shard-preserved
loop-shard-preserved c =
    c.in_ok-push.ensures.items
    ∙ (ap (λ (ls : List (List Document)). ls ++ c.new.result ∷ []) c.loop-shard.invariant
    ∙ (ap (λ (ds : List Document). cut [] c.loop-shard._shard ++ ds ∷ []) c.new.ensures
    ∙ sym (none-more c.loop-shard._shard)))
