-- What sibling pipelines of one kind say of the buckets beside them, whatever their names: a value, and the keys of the buckets that
-- have it where it is a least or greatest one ('Sum bucket aggregation', 'Min bucket aggregation', 'Max bucket aggregation').
use Rattle.std.specs.Prelude.{◌≡◌, ℤ, List, [], map, Option, Some, None}
use Rattle.std.specs.List.{All}
use Rattle.std.specs.Option.{option_map}
use Rattle.agg_model.specs.declared.aggregation.Agg.{Agg}
use Rattle.agg_model.specs.declared.aggregation.Kind.{Kind}
use Rattle.agg_model.specs.declared.answer.BucketAnswer.{BucketAnswer}
use Rattle.agg_model.specs.declared.answer.NodeAnswer.{NodeAnswer}
use Rattle.agg_model.specs.declared.key.Key.{Key}
use Rattle.agg_model.specs.declared.pipeline.PipeKind.{PipeKind}
use Rattle.agg_model.specs.declared.pipeline.PipeKind.TheVariants as pipe
use Rattle.agg_model.specs.declared.pipeline.PipePath.{PipePath}
use Rattle.agg_spec.specs.Notes.{piper}
use Rattle.agg_spec.specs.Pipelines.{greatest_value, keys_with, least_value, sum_of_values, values_of}
use Rattle.agg_spec.specs.Remarks.{Piper, sibling_buckets, sibling_kinds}
use Rattle.pipeline_agg.specs.declared.summaries.Known.{Known}
use Rattle.pipeline_agg.specs.declared.summaries.Siblings.{Siblings}
use Rattle.pipeline_agg.specs.declared.summaries.Summary.{Summary}

abbrev pub summary : Option ℤ → List Key → Summary
summary value keys = record { value = value; keys = keys }

-- the sum of the values, which has no key
abbrev pub total : List Kind → PipePath → List BucketAnswer → Summary
total kinds at buckets = summary (Some (sum_of_values (values_of kinds at buckets))) []

-- a least or greatest value, with the keys of the buckets that have it
abbrev pub extreme : List Kind → PipePath → Option ℤ → List BucketAnswer → Summary
extreme kinds at value buckets = summary value (keys_with kinds at value buckets)

-- none for a kind that says nothing of what is beside it
abbrev pub summary_of : List Piper → List NodeAnswer → PipeKind → Option Summary
summary_of aggs nodes (pipe.CumulativeSum at) = None
summary_of aggs nodes (pipe.Derivative at) = None
summary_of aggs nodes (pipe.SumBucket i at) = Some (total (sibling_kinds i aggs) at (sibling_buckets i nodes))
summary_of aggs nodes (pipe.MinBucket i at) =
    Some (extreme (sibling_kinds i aggs) at (least_value (values_of (sibling_kinds i aggs) at (sibling_buckets i nodes))) (sibling_buckets i nodes))
summary_of aggs nodes (pipe.MaxBucket i at) =
    Some (extreme (sibling_kinds i aggs) at (greatest_value (values_of (sibling_kinds i aggs) at (sibling_buckets i nodes))) (sibling_buckets i nodes))
summary_of aggs nodes (pipe.BucketSort sort start size) = None

-- what is known of one kind is so of these answers
abbrev pub IsKnown : List Agg → List NodeAnswer → Known → Type 0
IsKnown aggs nodes k = k.summary ≡ summary_of (map piper aggs) nodes k.kind.now

-- these are the aggregations and their answers, and all that is known is so of them
pub record AreOf (aggs : List Agg) (nodes : List NodeAnswer) (s : Siblings) : Type 0 where
  pub aggs_are : s.aggs.now ≡ aggs
  pub nodes_are : s.nodes.now ≡ nodes
  pub known : All (IsKnown aggs nodes) s.known.items
