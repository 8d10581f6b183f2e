-- What a run over an answer tells, against the definition: the answers and notes where each value has 64 bits, else the path of
-- the first that has not ('Pipeline aggregations').
use Rattle.std.specs.Prelude.{◌≡◌, ℕ, ⊤, not, List, map, filter, flat_map, fold, Option, Some, None}
use Rattle.agg_model.specs.declared.aggregation.Kind.{Kind}
use Rattle.agg_model.specs.declared.pipeline.Note.{Note}
use Rattle.agg_model.specs.declared.pipeline.Pipe.{Pipe}
use Rattle.agg_model.specs.declared.pipeline.PipeKind.{PipeKind}
use Rattle.agg_model.specs.declared.pipeline.PipeKind.TheVariants as pipe
use Rattle.agg_spec.specs.Notes.{note_from_around, note_in_range}
use Rattle.agg_spec.specs.Pipelines.{bucket_sort_cmp, cut_from}
use Rattle.agg_spec.specs.RangeCheck.{unless, first_path}
use Rattle.agg_spec.specs.Remarks.{Remark, is_bucket_sort, pipes_here}
use Rattle.list_laws.specs.Sorting.{sorted}
use Rattle.pipeline_agg.specs.declared.fault.PipeFault.{PipeFault}
use Rattle.pipeline_agg.specs.declared.fault.PipeFault.TheVariants as fault
use Rattle.pipeline_agg.specs.declared.remarked.RemarkedBucket.{RemarkedBucket}
use Rattle.pipeline_agg.specs.declared.remarked.Said.{Said}
use Rattle.pipeline_agg.specs.declared.remarked.Said.TheVariants as said

abbrev pub notes_of : List Remark → List Note
notes_of remarks = map (λ r. r.note) remarks

-- the path of the first value outside signed 64 bits
abbrev pub first_wide : List Remark → Option (List ℕ)
first_wide remarks = first_path (flat_map (λ r. unless (note_in_range r.note) r.path) remarks)

-- all pipelines but those that sort and cut
abbrev pub unsorted : List Pipe → List Pipe
unsorted pipes = filter (λ p. not (is_bucket_sort p.kind)) pipes

-- what was said under a name: its notes where each is in range, else the path of the first that is not
abbrev pub IsSaid : List Remark → Said → Type 0
IsSaid remarks (said.Notes notes) = (first_wide remarks ≡ None) × (notes ≡ notes_of remarks)
IsSaid remarks (said.Wide path) = first_wide remarks ≡ Some path

-- all values that were said are in range
abbrev pub IsFit : Said → Type 0
IsFit (said.Notes notes) = ⊤
IsFit (said.Wide path) = ⊥

-- why nothing is told: a path that is this one; want of memory may come at any time
abbrev pub IsCause : Option (List ℕ) → PipeFault → Type 0
IsCause wide (fault.SumRange path) = wide ≡ Some path
IsCause wide fault.Memory = ⊤

-- buckets after each `bucket_sort`; the other kinds leave them as they are
abbrev pub arranged_by : List Kind → PipeKind → List RemarkedBucket → List RemarkedBucket
arranged_by kinds (pipe.CumulativeSum at) buckets = buckets
arranged_by kinds (pipe.Derivative at) buckets = buckets
arranged_by kinds (pipe.SumBucket i at) buckets = buckets
arranged_by kinds (pipe.MinBucket i at) buckets = buckets
arranged_by kinds (pipe.MaxBucket i at) buckets = buckets
arranged_by kinds (pipe.BucketSort sort start size) buckets =
    cut_from start size (sorted (λ a b. bucket_sort_cmp kinds sort a.bucket b.bucket) buckets)

abbrev pub arranged_buckets : List Kind → List Pipe → List RemarkedBucket → List RemarkedBucket
arranged_buckets kinds pipes buckets = fold (λ bs p. arranged_by kinds p.kind bs) buckets (pipes_here pipes)

-- the notes in the objects of buckets, as they are seen from their aggregation
abbrev pub bucket_notes : List (ℕ × RemarkedBucket) → List Note
bucket_notes buckets = flat_map (λ b. map (note_from_around b.0) b.1.notes) buckets
