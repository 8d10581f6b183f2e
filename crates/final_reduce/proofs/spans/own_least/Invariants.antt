use Rattle.std.proofs.Common.{◌≡◌, ◌++◌, drop, option_to_list}
use Rattle.std.specs.List.{reduce}
use Rattle.std.specs.Int.{int_min}
use Rattle.final_reduce.specs.Steps.{key_numbers}
use Rattle.final_reduce.proofs.spans.own_least.Given as goal

-- the number so far, and then those of what is left
abbrev pub invariant-loop-bucket : goal.invariant-loop-bucket
invariant-loop-bucket l = reduce int_min (option_to_list l.least ++ key_numbers (drop l.bucket-index l.buckets)) ≡ reduce int_min (key_numbers l.buckets)
