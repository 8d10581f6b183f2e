use Rattle.std.proofs.Common.{◌≡◌, ◌++◌, List}
use Rattle.std.specs.VecDeque.{deque_len}
use Rattle.agg_model.specs.declared.partial.Bucket.{Bucket}
use Rattle.partial_result.specs.Merged.{OtherBucket, put_in}
use Rattle.partial_result.proofs.merging.pass_to.Given as goal

abbrev pub decreases-loop-first : goal.decreases-loop-first
decreases-loop-first l = deque_len l.rest

-- what is put in behind the buckets that were passed
abbrev pub invariant-loop-first : goal.invariant-loop-first
invariant-loop-first l =
    (o : OtherBucket) (next : List Bucket → List Bucket) → o.0.key ≡ l.key → l.initial.merged.items ++ put_in o next l.initial.rest.items ≡ l.merged.items ++ put_in o next l.rest.items
