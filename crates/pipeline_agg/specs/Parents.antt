-- What a pipeline keeps while it goes from bucket to bucket ('Cumulative sum aggregation', 'Derivative aggregation').
use Rattle.std.specs.Prelude.{◌≡◌, ℕ, zero, suc, ℤ, pos, ◌+ℤ◌, ⊤, List, [], ◌∷◌, map, take, Option, Some, None, IsTrue, option_to_list, unwrap_or}
use Rattle.agg_model.specs.declared.aggregation.Kind.{Kind}
use Rattle.agg_model.specs.declared.answer.BucketAnswer.{BucketAnswer}
use Rattle.agg_model.specs.declared.pipeline.PipeKind.{PipeKind}
use Rattle.agg_model.specs.declared.pipeline.PipeKind.TheVariants as pipe
use Rattle.agg_model.specs.declared.pipeline.Pipe.{Pipe}
use Rattle.agg_spec.specs.Pipelines.{difference, sum_of_values, value_at, value_of_place, values_of}
use Rattle.agg_spec.specs.Remarks.{Remark, remark_of}
use Rattle.agg_spec.specs.RangeCheck.{is_in_range}
use Rattle.pipeline_agg.specs.Bounds.{is_small}
use Rattle.pipeline_agg.specs.declared.parents.Running.{Running}

-- the value at the place before; null in front of the first
abbrev pub value_before : List (Option ℤ) → ℕ → Option ℤ
value_before vs zero = None
value_before vs (suc i) = value_of_place vs i

-- the sum, or the last value, of the buckets in front of a place
abbrev pub StandsBefore : List Kind → PipeKind → List BucketAnswer → ℕ → Running → Type 0
StandsBefore kinds (pipe.CumulativeSum at) buckets place r = r.sum ≡ sum_of_values (take place (values_of kinds at buckets))
StandsBefore kinds (pipe.Derivative at) buckets place r = r.before ≡ value_before (values_of kinds at buckets) place
StandsBefore kinds (pipe.SumBucket i at) buckets place r = ⊤
StandsBefore kinds (pipe.MinBucket i at) buckets place r = ⊤
StandsBefore kinds (pipe.MaxBucket i at) buckets place r = ⊤
StandsBefore kinds (pipe.BucketSort sort start size) buckets place r = ⊤

-- what is kept behind one more bucket
abbrev pub next_running : List Kind → PipeKind → BucketAnswer → Running → Running
next_running kinds (pipe.CumulativeSum at) b r = record { sum = r.sum +ℤ unwrap_or (value_at kinds at b) (pos 0); before = r.before }
next_running kinds (pipe.Derivative at) b r = record { sum = r.sum; before = value_at kinds at b }
next_running kinds (pipe.SumBucket i at) b r = r
next_running kinds (pipe.MinBucket i at) b r = r
next_running kinds (pipe.MaxBucket i at) b r = r
next_running kinds (pipe.BucketSort sort start size) b r = r

-- what a pipeline says at the next bucket, by what it keeps
abbrev pub next_says : List Kind → Pipe → PipeKind → BucketAnswer → Running → List Remark
next_says kinds p (pipe.CumulativeSum at) b r = remark_of p (Some (r.sum +ℤ unwrap_or (value_at kinds at b) (pos 0))) [] ∷ []
next_says kinds p (pipe.Derivative at) b r = map (λ n. remark_of p (Some n) []) (option_to_list (difference (value_at kinds at b) r.before))
next_says kinds p (pipe.SumBucket i at) b r = []
next_says kinds p (pipe.MinBucket i at) b r = []
next_says kinds p (pipe.MaxBucket i at) b r = []
next_says kinds p (pipe.BucketSort sort start size) b r = []

-- it can be added to and taken from within 128 bits
abbrev pub IsSmall : Running → Type 0
IsSmall r = IsTrue (is_in_range r.sum) × IsTrue (is_small r.before)
