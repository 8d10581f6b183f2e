use Rattle.std.proofs.Common.{◌≡◌, map, take}
use Rattle.shard_columns.specs.Values.{most_held}
use Rattle.shard_columns.proofs.values.most_of_each.Given as goal

abbrev pub invariant-loop-draft : goal.invariant-loop-draft
invariant-loop-draft l = l.all.items ≡ map most_held (take l.draft-index l.drafts)
