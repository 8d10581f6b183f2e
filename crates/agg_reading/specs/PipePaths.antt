-- The paths of pipelines, looked up among the aggregations beside them, and where pipelines may stand ('Pipeline aggregations',
-- `buckets_path`: paths to metrics and to buckets; parent and sibling pipelines).
use Rattle.std.specs.Prelude.{ℕ, ◌+◌, List, [], ◌∷◌, ◌++◌, length, take, drop, Option, Some, None, Ok, ⊤, Bool, true, false, ◌&&◌, ◌||◌, not, if◌then◌else◌, codes}
use Rattle.std.specs.Str.{bytes_eq}
use Rattle.agg_model.specs.declared.body_refusal.TheConstants.{MISPLACED_PIPELINE, NO_SUCH_PIPE_PATH}
use Rattle.agg_model.specs.declared.aggregation.Agg.{Agg, out-Agg}
use Rattle.agg_model.specs.declared.aggregation.Kind.{Kind}
use Rattle.agg_model.specs.declared.pipeline.Pipe.{Pipe}
use Rattle.agg_model.specs.declared.pipeline.PipeKind.{PipeKind}
use Rattle.agg_model.specs.declared.pipeline.PipeKind.TheVariants as pipe
use Rattle.agg_model.specs.declared.pipeline.PipeOrder.{PipeOrder}
use Rattle.agg_model.specs.declared.pipeline.PipePath.{PipePath}
use Rattle.agg_model.specs.declared.pipeline.PipePath.TheVariants as path
use Rattle.agg_model.specs.Options.{Options, options_of}
use Rattle.agg_reading.specs.declared.names.KindName.{KindName}
use Rattle.agg_reading.specs.declared.names.KindName.TheVariants as name
use Rattle.agg_reading.specs.declared.parts.NamedOrder.{NamedOrder}
use Rattle.agg_reading.specs.declared.pipes.NamedPath.{NamedPath}
use Rattle.agg_reading.specs.declared.pipes.ReadPipeKind.{ReadPipeKind}
use Rattle.agg_reading.specs.declared.pipes.ReadPipeKind.TheVariants as written
use Rattle.agg_reading.specs.declared.pipes.FoundPipe.{FoundPipe}
use Rattle.agg_reading.specs.declared.pipes.FoundPipe.TheVariants as walked
use Rattle.agg_reading.specs.Reading.{Reading, ◌>>=◌, ◌>>◌, refuse, or_refuse}
use Rattle.agg_reading.specs.Orders.{child_named}

-- `_count`, or a metric among these by its name, or by its name and `.value`
unfoldable pub value_path : List Agg → List ℕ → List ℕ → Reading PipePath
value_path children at text =
    if bytes_eq text (codes "_count") then Ok path.Count
    else (or_refuse NO_SUCH_PIPE_PATH at (child_named text children) >>= λ n. Ok (path.Child n))

-- a kind whose buckets a path may name
abbrev pub has_bucket_paths : Kind → Bool
has_bucket_paths k = elim (options_of k) [
  | Options.Terms t ↦ true
  | Options.Histogram h ↦ true
  | Options.Filters names filters other ↦ false
  | Options.Filter query ↦ false
  | Options.Missing field ↦ false
  | Options.Global ↦ false
  | Options.Nested context ↦ false
  | Options.ReverseNested context ↦ false
  | Options.Composite sources size after ↦ false
  | Options.Metric m ↦ false
]

-- whether a text begins with a name and `>`
unfoldable pub begins_with : List ℕ → List ℕ → Bool
begins_with front text = bytes_eq (take (length front + 1) text) (front ++ codes ">")

-- the first aggregation with buckets that a path begins with, and its place, counted from n
unfoldable pub sibling_from : ℕ → List ℕ → List Agg → Option (ℕ × Agg)
sibling_from n text [] = None
sibling_from n text (a ∷ rest) =
    if has_bucket_paths (out-Agg a).kind && begins_with (out-Agg a).name text then Some (n, a) else sibling_from (n + 1) text rest

-- an aggregation beside the pipeline, `>`, and a value of its buckets
unfoldable pub sibling_path : List Agg → NamedPath → Reading (ℕ × PipePath)
sibling_path aggs p = do
  a ← or_refuse NO_SUCH_PIPE_PATH p.at (sibling_from 0 p.path aggs)
  value ← value_path (out-Agg a.1).children p.at (drop (length (out-Agg a.1).name + 1) p.path)
  Ok (a.0, value)

unfoldable pub sort_paths : List Agg → List PipeOrder → List NamedOrder → Reading (List PipeOrder)
sort_paths aggs done [] = Ok done
sort_paths aggs done (o ∷ os) = do
  value ← value_path aggs o.at o.name
  sort_paths aggs (done ++ record { path = value; descending = o.descending } ∷ []) os

-- a pipeline whose paths are looked up among the aggregations beside it
unfoldable pub resolved_kind : List Agg → ReadPipeKind → Reading PipeKind
resolved_kind aggs (written.CumulativeSum p) = value_path aggs p.at p.path >>= λ value. Ok (pipe.CumulativeSum value)
resolved_kind aggs (written.Derivative p) = value_path aggs p.at p.path >>= λ value. Ok (pipe.Derivative value)
resolved_kind aggs (written.SumBucket p) = sibling_path aggs p >>= λ s. Ok (pipe.SumBucket s.0 s.1)
resolved_kind aggs (written.MinBucket p) = sibling_path aggs p >>= λ s. Ok (pipe.MinBucket s.0 s.1)
resolved_kind aggs (written.MaxBucket p) = sibling_path aggs p >>= λ s. Ok (pipe.MaxBucket s.0 s.1)
resolved_kind aggs (written.BucketSort sort start size) = sort_paths aggs [] sort >>= λ orders. Ok (pipe.BucketSort orders start size)

-- the pipelines of an object, in the order of the walk: those that its aggregations enclose stay as they are
unfoldable pub resolved_pipes : List Agg → List Pipe → List FoundPipe → Reading (List Pipe)
resolved_pipes aggs done [] = Ok done
resolved_pipes aggs done (walked.Below p ∷ rest) = resolved_pipes aggs (done ++ p ∷ []) rest
resolved_pipes aggs done (walked.Here p ∷ rest) = do
  kind ← resolved_kind aggs p.kind
  resolved_pipes aggs (done ++ record { at = []; name = p.name; kind = kind } ∷ []) rest

-- what is directly around a pipeline
pub data Around : Type 0 where
  -- a histogram, whose buckets stand in the order of their keys
  histogram : Around
  -- another kind whose buckets can be sorted
  buckets : Around
  -- the top, or any other kind
  other : Around

abbrev pub around_of : KindName → Around
around_of name.Avg = Around.other
around_of name.Composite = Around.other
around_of name.DateHistogram = Around.histogram
around_of name.Filter = Around.other
around_of name.Filters = Around.other
around_of name.Global = Around.other
around_of name.Histogram = Around.histogram
around_of name.Max = Around.other
around_of name.Min = Around.other
around_of name.Missing = Around.other
around_of name.Nested = Around.other
around_of name.ReverseNested = Around.other
around_of name.Sum = Around.other
around_of name.Terms = Around.buckets
around_of name.ValueCount = Around.other

abbrev pub takes_parents : Around → Bool
takes_parents around = elim around [ Around.histogram ↦ true | Around.buckets ↦ false | Around.other ↦ false ]

abbrev pub takes_sorts : Around → Bool
takes_sorts around = elim around [ Around.histogram ↦ true | Around.buckets ↦ true | Around.other ↦ false ]

-- whether a pipeline may stand there, where a `bucket_sort` stands before it or not
abbrev pub may_stand : Around → Bool → ReadPipeKind → Bool
may_stand around sorts (written.CumulativeSum p) = takes_parents around
may_stand around sorts (written.Derivative p) = takes_parents around
may_stand around sorts (written.SumBucket p) = true
may_stand around sorts (written.MinBucket p) = true
may_stand around sorts (written.MaxBucket p) = true
may_stand around sorts (written.BucketSort sort start size) = takes_sorts around && not sorts

abbrev pub is_sort : ReadPipeKind → Bool
is_sort (written.CumulativeSum p) = false
is_sort (written.Derivative p) = false
is_sort (written.SumBucket p) = false
is_sort (written.MinBucket p) = false
is_sort (written.MaxBucket p) = false
is_sort (written.BucketSort sort start size) = true

-- The first pipeline of the object that may not stand there is refused; at most one is a `bucket_sort`.
unfoldable pub placed_pipes : Around → Bool → List FoundPipe → Reading ⊤
placed_pipes around sorts [] = Ok tt
placed_pipes around sorts (walked.Below p ∷ rest) = placed_pipes around sorts rest
placed_pipes around sorts (walked.Here p ∷ rest) =
    if may_stand around sorts p.kind then placed_pipes around (sorts || is_sort p.kind) rest else refuse MISPLACED_PIPELINE p.at

-- The last rules of what holds an object of aggregations: first each path of its pipelines, then where each stands.
unfoldable pub fitted_pipes : Around → List Agg → List FoundPipe → Reading (List Pipe)
fitted_pipes around aggs pipes = do
  resolved ← resolved_pipes aggs [] pipes
  placed_pipes around false pipes
  Ok resolved
