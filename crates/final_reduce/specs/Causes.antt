-- Why an answer is not given ('Search settings', `search.max_buckets`; numbers of signed 64 bits).
use Rattle.std.specs.Prelude.{◌≡◌, ℕ, ◌<◌, ◌≤◌, ⊤, Some, None}
use Rattle.agg_model.specs.declared.answer.Answer.{Answer}
use Rattle.agg_model.specs.declared.aggregation.Search.{Search}
use Rattle.agg_spec.specs.BucketCount.{total_buckets}
use Rattle.agg_spec.specs.RangeCheck.{out_of_range}
use Rattle.final_reduce.specs.declared.finishing.FinalFault.{FinalFault}
use Rattle.final_reduce.specs.declared.finishing.FinalFault.TheVariants as fault

-- the answer has no more buckets than the maximum, and each number is in range
abbrev pub IsWithinLimits : Search → ℕ → Answer → Type 0
IsWithinLimits search max answer = (total_buckets search answer ≤ max) × (out_of_range search answer ≡ None)

-- too many buckets come first, and then the first number out of range
abbrev pub IsCause : Search → ℕ → Answer → FinalFault → Type 0
IsCause search max answer (fault.TooManyBuckets count limit) = (count ≡ total_buckets search answer) × (limit ≡ max) × (max < total_buckets search answer)
IsCause search max answer (fault.SumRange path) = (total_buckets search answer ≤ max) × (out_of_range search answer ≡ Some path)
IsCause search max answer fault.Memory = ⊤
