use Rattle.std.proofs.Common.{◌≡◌, ◌++◌, List, map, take, length}
use Rattle.std.specs.Vec.Iter.{into_iter_items}
use Rattle.agg_model.specs.declared.row.Document.{Document}
use Rattle.shard_columns.specs.Built.{columns_from}
use Rattle.column_loading.specs.Drafts.{AreDraftsOf}
use Rattle.column_loading.proofs.drafts.finished.Given as goal

-- the shards of the drafts so far
abbrev pub invariant-loop-draft : goal.invariant-loop-draft
invariant-loop-draft l = record {
  left : l.yielded ++ into_iter_items l.draft-iterator ≡ l.fn.drafts.items;
  finished : (lists : List (List Document)) → AreDraftsOf l.mapping lists l.fn.drafts.items → l.shards ≡ map (columns_from l.mapping) (take (length l.yielded) lists);
}
