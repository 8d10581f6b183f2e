use Rattle.std.proofs.Common.{◌≡◌, ◌++◌}
use Rattle.std.specs.Vec.Iter.{into_iter_items}
use Rattle.shard_columns.specs.Columnar.{AreFinished}
use Rattle.shard_columns.proofs.columns.columns.Given as goal

abbrev pub invariant-loop-draft : goal.invariant-loop-draft
invariant-loop-draft l = record {
  left : l.yielded ++ into_iter_items l.draft-iterator ≡ l.fn.drafts.items;
  finished : AreFinished l.homes l.ranks l.yielded l.columns.items;
}
