use Rattle.std.proofs.Common.{◌≡◌, take}
use Rattle.agg_model.proofs.partial.+partial.Given as goal

-- what was copied is the front of the list
abbrev pub invariant-copy_nodes-loop-node : goal.invariant-copy_nodes-loop-node
invariant-copy_nodes-loop-node l = l.copied ≡ take l.node-index l.node-items

-- what was copied is the front of the list
abbrev pub invariant-copy_buckets-loop-bucket : goal.invariant-copy_buckets-loop-bucket
invariant-copy_buckets-loop-bucket l = l.copied ≡ take l.bucket-index l.bucket-items
