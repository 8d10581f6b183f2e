-- The zones in which the keys of notes are printed: those of the aggregation that a least or greatest value is of ('Min bucket
-- aggregation', 'Max bucket aggregation': `keys`).
use Rattle.std.specs.Prelude.{ℕ, ℤ, Bool, true, false, ◌==◌, ◌&&◌, List, [], ◌∷◌, map, filter_map, Option, Some, None, find, option_map, option_and_then, slice_get}
use Rattle.std.specs.Option.{option_map_or}
use Rattle.std.specs.Str.{bytes_eq}
use Rattle.agg_model.specs.declared.mapping.Mapping.{Mapping}
use Rattle.agg_model.specs.declared.aggregation.Agg.{Agg, out-Agg}
use Rattle.agg_model.specs.declared.aggregation.Kind.{Kind}
use Rattle.agg_model.specs.declared.aggregation.Search.{Search}
use Rattle.agg_model.specs.declared.pipeline.Pipe.{Pipe}
use Rattle.agg_model.specs.declared.pipeline.PipeKind.{PipeKind}
use Rattle.agg_model.specs.declared.pipeline.PipeKind.TheVariants as pipe
use Rattle.agg_model.specs.declared.pipeline.Note.{Note}
use Rattle.agg_model.specs.Options.{Options, options_of}
use Rattle.agg_spec.specs.AnswerTree.{ZonedNote, zone_of_terms, zone_of_spacing}

-- the zone in which the keys of a kind's buckets are printed that are instants
abbrev pub zone_of_buckets : Mapping → Kind → Option ℤ
zone_of_buckets m k = elim (options_of k) [
  | Options.Terms t ↦ zone_of_terms m t.field
  | Options.Histogram h ↦ zone_of_spacing h.spacing
  | Options.Filters names filters other ↦ None
  | Options.Filter query ↦ None
  | Options.Missing field ↦ None
  | Options.Global ↦ None
  | Options.Nested context ↦ None
  | Options.ReverseNested context ↦ None
  | Options.Composite sources size after ↦ None
  | Options.Metric o ↦ None
]

-- the aggregation beside the pipeline whose buckets' keys it notes
abbrev pub keyed_sibling : PipeKind → Option ℕ
keyed_sibling (pipe.CumulativeSum at) = None
keyed_sibling (pipe.Derivative at) = None
keyed_sibling (pipe.SumBucket i at) = None
keyed_sibling (pipe.MinBucket i at) = Some i
keyed_sibling (pipe.MaxBucket i at) = Some i
keyed_sibling (pipe.BucketSort sort start size) = None

-- the aggregations of the object that the aggregations at these places enclose
abbrev pub enclosed_aggs : List ℕ → List Agg → List Agg
enclosed_aggs [] aggs = aggs
enclosed_aggs (i ∷ rest) aggs = option_map_or (λ a. enclosed_aggs rest (out-Agg a).children) (slice_get aggs i) []

-- the zone of the keys that a pipeline notes
abbrev pub zone_of_pipe : Search → Mapping → Pipe → Option ℤ
zone_of_pipe search m p =
    option_and_then (λ i. option_and_then (λ a. zone_of_buckets m (out-Agg a).kind) (slice_get (enclosed_aggs p.at search.aggs) i)) (keyed_sibling p.kind)

-- the note stands in an object that the aggregations at these places enclose: places of aggregations and of buckets by turns
abbrev pub stands_within : List ℕ → List ℕ → Bool
stands_within [] [] = true
stands_within [] (j ∷ rest) = false
stands_within (i ∷ places) [] = false
stands_within (i ∷ places) (j ∷ []) = false
stands_within (i ∷ places) (j ∷ (bucket ∷ rest)) = i == j && stands_within places rest

-- those of some pipelines that note keys which are instants, each with the zone of their texts
abbrev pub dated_among : Search → Mapping → List Pipe → List (ℤ × Pipe)
dated_among search m pipes = filter_map (λ p. option_map (λ zone. (zone, p)) (zone_of_pipe search m p)) pipes

abbrev pub dated_pipes : Search → Mapping → List (ℤ × Pipe)
dated_pipes search m = dated_among search m search.pipes

-- the note is one of the pipeline's
abbrev pub is_note_of : Note → Pipe → Bool
is_note_of n p = bytes_eq p.name n.name && stands_within p.at n.at

abbrev pub zone_of_note : List (ℤ × Pipe) → Note → Option ℤ
zone_of_note dated n = option_map (λ d. d.0) (find (λ d. is_note_of n d.1) dated)

abbrev pub zoned_note : List (ℤ × Pipe) → Note → ZonedNote
zoned_note dated n = record { zone = zone_of_note dated n; note = n }

abbrev pub zoned_notes : Search → Mapping → List Note → List ZonedNote
zoned_notes search m notes = map (zoned_note (dated_pipes search m)) notes
