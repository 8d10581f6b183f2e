-- The answer with what its pipelines say: each pipeline in every object where it stands ('Pipeline aggregations').
use Rattle.std.specs.Prelude.{ℕ, ◌+◌, ◌==◌, if◌then◌else◌, not, Bool, true, List, [], ◌∷◌, ◌++◌, map, filter, filter_map, flat_map, Option, Some, None, option_map, codes}
use Rattle.std.specs.List.{enumerate_from}
use Rattle.std.specs.Option.{option_map_or}
use Rattle.std.specs.declared.cmp.Ordering.{Ordering}
use Rattle.std.specs.Ordering.{nat_cmp}
use Rattle.std.specs.Cmp.Lexicographic.{slice_cmp}
use Rattle.agg_model.specs.declared.answer.BucketAnswer.{BucketAnswer, out-BucketAnswer, roll-BucketAnswer}
use Rattle.agg_model.specs.declared.answer.NodeAnswer.{NodeAnswer, out-NodeAnswer, roll-NodeAnswer}
use Rattle.agg_model.specs.declared.answer.Answer.{Answer}
use Rattle.agg_model.specs.declared.aggregation.Agg.{Agg}
use Rattle.agg_model.specs.declared.aggregation.Agg.TheOpen.{Agg-F}
use Rattle.agg_model.specs.declared.aggregation.Search.{Search}
use Rattle.agg_model.specs.declared.pipeline.Pipe.{Pipe}
use Rattle.agg_model.specs.declared.pipeline.Note.{Note}
use Rattle.agg_model.specs.declared.pipeline.Piped.{Piped}
use Rattle.list_laws.specs.Sorting.{sorted}
use Rattle.agg_evaluation.specs.Folds.{fold_agg}
use Rattle.agg_spec.specs.RangeCheck.{is_in_range, unless, first_path}
use Rattle.agg_spec.specs.Remarks.{Remark, RemarkedNode, RemarkedBucket, Piper, pipes_here, sibling_says, parent_says, arranged, is_bucket_sort}

-- the places behind the first, where that is this one
abbrev pub places_behind : ℕ → List ℕ → Option (List ℕ)
places_behind i [] = None
places_behind i (j ∷ rest) = if i == j then Some rest else None

-- the pipelines that the aggregation at this place encloses, as they are seen from it
abbrev pub pipes_within : ℕ → List Pipe → List Pipe
pipes_within i pipes = filter_map (λ p. option_map (λ rest. record p { at = rest }) (places_behind i p.at)) pipes

abbrev pub note_from_around : ℕ → Note → Note
note_from_around i n = record n { at = i ∷ n.at }

-- a remark seen from around the place
abbrev pub from_around : ℕ → Remark → Remark
from_around i r = record { path = r.path; note = note_from_around i r.note }

-- a remark below an aggregation, seen from the object in which the aggregation stands
abbrev pub below_agg : ℕ → List ℕ → Remark → Remark
below_agg i name r = record { path = codes "/" ++ (name ++ r.path); note = note_from_around i r.note }

abbrev pub unpiped : NodeAnswer → RemarkedNode
unpiped n = record { node = n; remarks = [] }

-- The answers of one object, each by the pipelines that its aggregation encloses; places are counted from i. An answer without
-- an aggregation stays as it is.
abbrev pub piped_nodes : ℕ → List Piper → List Pipe → List NodeAnswer → List RemarkedNode
piped_nodes i [] pipes nodes = map unpiped nodes
piped_nodes i (a ∷ aggs) pipes [] = []
piped_nodes i (a ∷ aggs) pipes (n ∷ nodes) = a.piped (pipes_within i pipes) n ∷ piped_nodes (i + 1) aggs pipes nodes

-- a name of an object, with the remarks that print there
abbrev pub Named : Type 0
Named = List ℕ × List Remark

-- byte order of the names
abbrev pub named_cmp : Named → Named → Ordering
named_cmp a b = slice_cmp nat_cmp a.0 b.0

abbrev pub named_nodes : ℕ → List Piper → List RemarkedNode → List Named
named_nodes i [] nodes = []
named_nodes i (a ∷ aggs) [] = []
named_nodes i (a ∷ aggs) (n ∷ nodes) = (a.name, map (below_agg i a.name) n.remarks) ∷ named_nodes (i + 1) aggs nodes

-- The remarks of one object, in byte order of the names: those below each aggregation, and those that the pipelines of the object
-- itself make of the aggregations beside them, or of the buckets around them.
abbrev pub object_remarks : List Piper → List Pipe → (Pipe → List Remark) → List NodeAnswer → List Remark
object_remarks aggs pipes parents nodes =
    flat_map (λ e. e.1) (sorted named_cmp
    (named_nodes 0 aggs (piped_nodes 0 aggs pipes nodes)
    ++ map (λ p. (p.name, sibling_says aggs nodes p p.kind ++ parents p)) (pipes_here pipes)))

-- the answers of one object, their buckets as pipelines leave them
abbrev pub object_nodes : List Piper → List Pipe → List NodeAnswer → List NodeAnswer
object_nodes aggs pipes nodes = map (λ n. n.node) (piped_nodes 0 aggs pipes nodes)

abbrev pub with_children : List NodeAnswer → BucketAnswer → BucketAnswer
with_children children b = roll-BucketAnswer (record {
  key = (out-BucketAnswer b).key;
  count = (out-BucketAnswer b).count;
  error = (out-BucketAnswer b).error;
  children = children;
})

abbrev pub with_buckets : List BucketAnswer → NodeAnswer → NodeAnswer
with_buckets buckets n = roll-NodeAnswer (record {
  name = (out-NodeAnswer n).name;
  buckets = buckets;
  error = (out-NodeAnswer n).error;
  other = (out-NodeAnswer n).other;
  metric = (out-NodeAnswer n).metric;
})

-- a bucket of the aggregation whose children are these, at this place among its buckets
abbrev pub piped_bucket : List Piper → List Pipe → List BucketAnswer → ℕ × BucketAnswer → RemarkedBucket
piped_bucket children pipes buckets b = record {
  bucket = with_children (object_nodes children pipes (out-BucketAnswer b.1).children) b.1;
  remarks =
      object_remarks children pipes (λ p. parent_says (map (λ c. c.kind) children) buckets b.0 p p.kind) (out-BucketAnswer b.1).children;
}

-- All values are of the buckets before they are sorted and cut: a bucket takes its remarks along.
abbrev pub piped_buckets : List Piper → List Pipe → List BucketAnswer → List RemarkedBucket
piped_buckets children pipes buckets =
    arranged (map (λ c. c.kind) children) pipes (map (piped_bucket children pipes buckets) (enumerate_from 0 buckets))

abbrev pub piped_node : List Piper → List Pipe → NodeAnswer → RemarkedNode
piped_node children pipes n =
    let buckets = piped_buckets children pipes (out-NodeAnswer n).buckets in
    record {
      node = with_buckets (map (λ b. b.bucket) buckets) n;
      remarks = flat_map (λ b. map (from_around b.0) b.1.remarks) (enumerate_from 0 buckets);
    }

abbrev pub piper_of : Agg-F Piper → Piper
piper_of a = record { name = a.name; kind = a.kind; children = map (λ c. c.kind) a.children; piped = piped_node a.children }

abbrev pub piper : Agg → Piper
piper = fold_agg piper_of

-- nothing is around the top
abbrev pub no_parents : Pipe → List Remark
no_parents p = []

abbrev pub remarks_of : Search → List Pipe → Answer → List Remark
remarks_of search pipes answer = object_remarks (map piper search.aggs) pipes no_parents answer.nodes

-- the answer with its notes, in the order in which they print
abbrev pub piped : Search → Answer → Piped
piped search answer = record {
  answer = record { hits = answer.hits; nodes = object_nodes (map piper search.aggs) search.pipes answer.nodes };
  notes = map (λ r. r.note) (remarks_of search search.pipes answer);
}

-- a null prints
abbrev pub note_in_range : Note → Bool
note_in_range n = option_map_or is_in_range n.value true

-- the path of the first pipeline whose value lies outside signed 64 bits, in the answer before any bucket is cut
abbrev pub pipe_out_of_range : Search → Answer → Option (List ℕ)
pipe_out_of_range search answer =
    first_path (flat_map (λ r. unless (note_in_range r.note) r.path)
    (remarks_of search (filter (λ p. not (is_bucket_sort p.kind)) search.pipes) answer))
