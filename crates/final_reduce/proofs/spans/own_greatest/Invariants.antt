use Rattle.std.proofs.Common.{◌≡◌, ◌++◌, drop, option_to_list}
use Rattle.std.specs.List.{reduce}
use Rattle.std.specs.Int.{int_max}
use Rattle.final_reduce.specs.Steps.{key_numbers}
use Rattle.final_reduce.proofs.spans.own_greatest.Given as goal

-- the number so far, and then those of what is left
abbrev pub invariant-loop-bucket : goal.invariant-loop-bucket
invariant-loop-bucket l = reduce int_max (option_to_list l.greatest ++ key_numbers (drop l.bucket-index l.buckets)) ≡ reduce int_max (key_numbers l.buckets)
