-- What pipelines say in one object of an answer: siblings of the buckets of the aggregation beside them, parents at the buckets
-- around them ('Pipeline aggregations': parent and sibling pipelines).
use Rattle.std.specs.Prelude.{ℕ, ℤ, ◌++◌, Bool, true, false, List, [], ◌∷◌, map, filter, fold, Option, Some, option_to_list, slice_get, codes}
use Rattle.std.specs.Option.{option_map_or}
use Rattle.std.specs.declared.cmp.Ordering.{Ordering}
use Rattle.agg_model.specs.declared.key.Key.{Key}
use Rattle.agg_model.specs.declared.answer.BucketAnswer.{BucketAnswer}
use Rattle.agg_model.specs.declared.answer.NodeAnswer.{NodeAnswer, out-NodeAnswer}
use Rattle.agg_model.specs.declared.aggregation.Kind.{Kind}
use Rattle.agg_model.specs.declared.pipeline.Pipe.{Pipe}
use Rattle.agg_model.specs.declared.pipeline.PipePath.{PipePath}
use Rattle.agg_model.specs.declared.pipeline.PipeOrder.{PipeOrder}
use Rattle.agg_model.specs.declared.pipeline.PipeKind.{PipeKind}
use Rattle.agg_model.specs.declared.pipeline.PipeKind.TheVariants as pipe
use Rattle.agg_model.specs.declared.pipeline.Note.{Note}
use Rattle.list_laws.specs.Sorting.{sorted}
use Rattle.agg_spec.specs.Pipelines.{values_of, sum_of_values, cumulative_sum_at, derivative_at, least_value, greatest_value, keys_with, bucket_sort_cmp, cut_from}

-- a note with the names that lead to it, each behind a slash; the note's places are those from the object that is spoken of
pub record Remark : Type 0 where
  pub path : List ℕ
  pub note : Note

-- an answer to one aggregation, with the remarks below it
pub record RemarkedNode : Type 0 where
  pub node : NodeAnswer
  pub remarks : List Remark

-- a bucket, with the remarks in its object
pub record RemarkedBucket : Type 0 where
  pub bucket : BucketAnswer
  pub remarks : List Remark

-- an aggregation as pipelines see it: what it makes of an answer by the pipelines from it on
pub record Piper : Type 0 where
  pub name : List ℕ
  pub kind : Kind
  -- the kinds of the aggregations below it
  pub children : List Kind
  pub piped : List Pipe → NodeAnswer → RemarkedNode

abbrev pub are_no_places : List ℕ → Bool
are_no_places [] = true
are_no_places (i ∷ rest) = false

-- the pipelines that stand in the object itself
abbrev pub pipes_here : List Pipe → List Pipe
pipes_here pipes = filter (λ p. are_no_places p.at) pipes

-- a pipeline's note in the object that is spoken of
abbrev pub remark_of : Pipe → Option ℤ → List Key → Remark
remark_of p value keys = record {
  path = codes "/" ++ p.name;
  note = record { at = []; name = p.name; value = value; keys = keys };
}

-- a least or greatest value, with the keys of the buckets that have it
abbrev pub extreme_remark : Pipe → List Kind → PipePath → Option ℤ → List BucketAnswer → Remark
extreme_remark p kinds at value buckets = remark_of p value (keys_with kinds at value buckets)

-- a sibling's buckets and the kinds below them; none where there is no such sibling
abbrev pub sibling_buckets : ℕ → List NodeAnswer → List BucketAnswer
sibling_buckets i nodes = option_map_or (λ n. (out-NodeAnswer n).buckets) (slice_get nodes i) []

abbrev pub sibling_kinds : ℕ → List Piper → List Kind
sibling_kinds i aggs = option_map_or (λ a. a.children) (slice_get aggs i) []

-- what a sibling pipeline says of some buckets; a parent says nothing
abbrev pub sibling_says : List Piper → List NodeAnswer → Pipe → PipeKind → List Remark
sibling_says aggs nodes p (pipe.CumulativeSum at) = []
sibling_says aggs nodes p (pipe.Derivative at) = []
sibling_says aggs nodes p (pipe.SumBucket i at) =
    remark_of p (Some (sum_of_values (values_of (sibling_kinds i aggs) at (sibling_buckets i nodes)))) [] ∷ []
sibling_says aggs nodes p (pipe.MinBucket i at) =
    extreme_remark p (sibling_kinds i aggs) at (least_value (values_of (sibling_kinds i aggs) at (sibling_buckets i nodes))) (sibling_buckets i nodes) ∷ []
sibling_says aggs nodes p (pipe.MaxBucket i at) =
    extreme_remark p (sibling_kinds i aggs) at (greatest_value (values_of (sibling_kinds i aggs) at (sibling_buckets i nodes))) (sibling_buckets i nodes) ∷ []
sibling_says aggs nodes p (pipe.BucketSort sort start size) = []

-- what a parent pipeline says at the bucket of this place among the buckets around it; a sibling says nothing
abbrev pub parent_says : List Kind → List BucketAnswer → ℕ → Pipe → PipeKind → List Remark
parent_says kinds buckets place p (pipe.CumulativeSum at) = remark_of p (Some (cumulative_sum_at (values_of kinds at buckets) place)) [] ∷ []
parent_says kinds buckets place p (pipe.Derivative at) =
    map (λ n. remark_of p (Some n) []) (option_to_list (derivative_at (values_of kinds at buckets) place))
parent_says kinds buckets place p (pipe.SumBucket i at) = []
parent_says kinds buckets place p (pipe.MinBucket i at) = []
parent_says kinds buckets place p (pipe.MaxBucket i at) = []
parent_says kinds buckets place p (pipe.BucketSort sort start size) = []

abbrev pub remarked_cmp : List Kind → List PipeOrder → RemarkedBucket → RemarkedBucket → Ordering
remarked_cmp kinds sort a b = bucket_sort_cmp kinds sort a.bucket b.bucket

-- buckets after a `bucket_sort`; the other kinds leave them as they are
abbrev pub arranged_by : List Kind → PipeKind → List RemarkedBucket → List RemarkedBucket
arranged_by kinds (pipe.CumulativeSum at) buckets = buckets
arranged_by kinds (pipe.Derivative at) buckets = buckets
arranged_by kinds (pipe.SumBucket i at) buckets = buckets
arranged_by kinds (pipe.MinBucket i at) buckets = buckets
arranged_by kinds (pipe.MaxBucket i at) buckets = buckets
arranged_by kinds (pipe.BucketSort sort start size) buckets = cut_from start size (sorted (remarked_cmp kinds sort) buckets)

abbrev pub arranged : List Kind → List Pipe → List RemarkedBucket → List RemarkedBucket
arranged kinds pipes buckets = fold (λ bs p. arranged_by kinds p.kind bs) buckets (pipes_here pipes)

abbrev pub is_bucket_sort : PipeKind → Bool
is_bucket_sort (pipe.CumulativeSum at) = false
is_bucket_sort (pipe.Derivative at) = false
is_bucket_sort (pipe.SumBucket i at) = false
is_bucket_sort (pipe.MinBucket i at) = false
is_bucket_sort (pipe.MaxBucket i at) = false
is_bucket_sort (pipe.BucketSort sort start size) = true
