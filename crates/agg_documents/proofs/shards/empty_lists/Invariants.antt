use Rattle.std.proofs.Common.{◌≡◌, []}
use Rattle.agg_documents.specs.Shards.{cut}
use Rattle.agg_documents.proofs.shards.empty_lists.Given as goal

-- there is an empty list for each shard so far
abbrev pub invariant-loop-shard : goal.invariant-loop-shard
invariant-loop-shard l = l.lists.items ≡ cut [] l._shard
