use Rattle.std.proofs.Common.{◌≡◌, ◌++◌, map}
use Rattle.std.specs.Vec.Iter.{into_iter_items}
use Rattle.final_reduce.specs.Selection.{chosen_bucket}
use Rattle.final_reduce.proofs.select.without_errors.Given as goal

-- what is chosen so far, and then what is left
abbrev pub invariant-loop-bucket : goal.invariant-loop-bucket
invariant-loop-bucket l = record {
  next : (goal.iterator-loop-bucket).can_next l.bucket-iterator;
  finite : (goal.iterator-loop-bucket).is_finite l.bucket-iterator;
  rest : l.chosen ++ map chosen_bucket (into_iter_items l.bucket-iterator) ≡ map chosen_bucket l.fn.buckets;
}
