use Rattle.std.proofs.Common.{[], ◌∷◌, ◌++◌, List, ◌∙◌, ap}
use Rattle.shard_columns.specs.Ones.{one_at}
use Rattle.shard_columns.specs.declared.values.Held.{Held}
use Rattle.shard_columns.proofs.OneEach.{one-each-more}
use Rattle.shard_columns.proofs.held_rows.push_ones.Goals as goal

pub loop-row-preserved : goal.loop-row-preserved
loop-row-preserved c = c.in_ok-push.ensures.items ∙ ap (λ (hs : List Held). hs ++ one_at c.loop-row.row ∷ []) c.loop-row.invariant ∙ one-each-more c.loop-row.row
