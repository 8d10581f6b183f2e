-- What a run tells of one object of an answer, of a node in it and of its buckets, against the definition ('Pipeline
-- aggregations').
use Rattle.std.specs.Prelude.{◌≡◌, ⊤, ℕ, ◌+◌, List, [], ◌∷◌, ◌++◌, codes, map, flat_map, Option, None, Result, Ok, Err, Vec}
use Rattle.std.specs.declared.alloc.Global.{Global}
use Rattle.std.specs.List.{enumerate_from}
use Rattle.agg_model.specs.declared.aggregation.Agg.{Agg, out-Agg}
use Rattle.agg_model.specs.declared.answer.BucketAnswer.{BucketAnswer, out-BucketAnswer}
use Rattle.agg_model.specs.declared.answer.NodeAnswer.{NodeAnswer}
use Rattle.agg_model.specs.declared.pipeline.Pipe.{Pipe}
use Rattle.agg_spec.specs.Notes.{below_agg, note_from_around, object_nodes, pipes_within, piped_bucket, piper, with_children}
use Rattle.agg_spec.specs.Remarks.{RemarkedBucket as Remarked}
use Rattle.list_laws.specs.Sorting.{sorted}
use Rattle.pipeline_agg.specs.Entries.{AreFit, IsGathered, View, entry_cmp, first_said_wide, said_of, view_of}
use Rattle.pipeline_agg.specs.Told.{IsCause, first_wide, notes_of, unsorted}
use Rattle.pipeline_agg.specs.declared.fault.PipeFault.{PipeFault}
use Rattle.pipeline_agg.specs.declared.fault.PipeFault.TheVariants as fault
use Rattle.pipeline_agg.specs.declared.objects.RemarkedNode.{RemarkedNode}
use Rattle.pipeline_agg.specs.declared.objects.RemarkedNodes.{RemarkedNodes}
use Rattle.pipeline_agg.specs.declared.objects.RemarkedObject.{RemarkedObject}
use Rattle.pipeline_agg.specs.declared.remarked.RemarkedBucket.{RemarkedBucket}
use Rattle.pipeline_agg.specs.declared.remarked.Said.{Said}
use Rattle.pipeline_agg.specs.declared.remarked.Said.TheVariants as said

-- what is made of an answer by the pipelines within its aggregation: all values are looked at before buckets are sorted or cut
abbrev pub IsNode : Agg → List Pipe → NodeAnswer → Result RemarkedNode PipeFault → Type 0
IsNode a pipes n (Ok r) =
    (r.node ≡ ((piper a).piped pipes n).node) × (r.notes ≡ notes_of ((piper a).piped pipes n).remarks)
    × (first_wide ((piper a).piped (unsorted pipes) n).remarks ≡ None)
IsNode a pipes n (Err fault) = IsCause (first_wide ((piper a).piped (unsorted pipes) n).remarks) fault

-- what prints of it at this place; nothing is known of what is told for want of memory
abbrev pub said_below : ℕ → List ℕ → Result RemarkedNode PipeFault → Said
said_below place name (Ok r) = said.Notes (map (note_from_around place) r.notes)
said_below place name (Err (fault.SumRange path)) = said.Wide (codes "/" ++ (name ++ path))
said_below place name (Err fault.Memory) = said.Notes []

abbrev pub node_kept : Result RemarkedNode PipeFault → List NodeAnswer
node_kept (Ok r) = r.node ∷ []
node_kept (Err fault) = []

-- there was memory for it
abbrev pub IsTold : Result RemarkedNode PipeFault → Type 0
IsTold (Ok r) = ⊤
IsTold (Err (fault.SumRange path)) = ⊤
IsTold (Err fault.Memory) = ⊥

pub record IsKept (place : ℕ) (a : Agg) (piped : Result RemarkedNode PipeFault) (old new : RemarkedNodes) : Type 0 where
  pub told : IsTold piped
  pub nodes : new.nodes ≡ old.nodes ++ node_kept piped
  pub entries : map view_of new.entries.items ≡ map view_of old.entries.items ++ ((out-Agg a).name, said_below place (out-Agg a).name piped) ∷ []

-- what prints under the name of an aggregation at this place of an object, with the pipelines within it
abbrev pub node_entry : ℕ → Agg → List Pipe → NodeAnswer → View
node_entry i a pipes n = (
  (out-Agg a).name,
  said_of
      (map (below_agg i (out-Agg a).name) ((piper a).piped (unsorted pipes) n).remarks)
      (map (below_agg i (out-Agg a).name) ((piper a).piped pipes n).remarks),
)

abbrev pub node_entries : ℕ → List Agg → List Pipe → List NodeAnswer → List View
node_entries i [] pipes nodes = []
node_entries i (a ∷ aggs) pipes [] = []
node_entries i (a ∷ aggs) pipes (n ∷ nodes) = node_entry i a (pipes_within i pipes) n ∷ node_entries (i + 1) aggs pipes nodes

-- the answers of an object; all of them are there where no value is out of range
pub record AreNodes (aggs : List Agg) (pipes : List Pipe) (nodes : List NodeAnswer) (told : RemarkedNodes) : Type 0 where
  pub entries : map view_of told.entries.items ≡ node_entries 0 aggs pipes nodes
  pub nodes_are : AreFit (node_entries 0 aggs pipes nodes) → told.nodes ≡ object_nodes (map piper aggs) pipes nodes

-- all that prints in an object whose own pipelines say this
abbrev pub object_entries : List Agg → List Pipe → List View → List NodeAnswer → List View
object_entries aggs pipes own nodes = sorted entry_cmp (node_entries 0 aggs pipes nodes ++ own)

abbrev pub IsObject : List Agg → List Pipe → List View → List NodeAnswer → Result RemarkedObject PipeFault → Type 0
IsObject aggs pipes own nodes (Ok o) = (o.nodes ≡ object_nodes (map piper aggs) pipes nodes) × IsGathered (object_entries aggs pipes own nodes) (Ok o.notes)
IsObject aggs pipes own nodes (Err fault) = IsCause (first_said_wide (object_entries aggs pipes own nodes)) fault

abbrev pub IsBucket : List Agg → List Pipe → List View → BucketAnswer → Result RemarkedBucket PipeFault → Type 0
IsBucket children pipes own b (Ok r) =
    (r.bucket ≡ with_children (object_nodes (map piper children) pipes (out-BucketAnswer b).children) b)
    × IsGathered (object_entries children pipes own (out-BucketAnswer b).children) (Ok r.notes)
IsBucket children pipes own b (Err fault) = IsCause (first_said_wide (object_entries children pipes own (out-BucketAnswer b).children)) fault

-- the buckets of an aggregation before any is sorted or cut
abbrev pub remarked_buckets : List Agg → List Pipe → List BucketAnswer → List Remarked
remarked_buckets children pipes buckets = map (piped_bucket (map piper children) pipes buckets) (enumerate_from 0 buckets)

-- a bucket with the notes of its remarks
abbrev pub noted : Remarked → RemarkedBucket
noted b = record { bucket = b.bucket; notes = notes_of b.remarks }

-- the first value out of range in buckets
abbrev pub wide_bucket : List Remarked → Option (List ℕ)
wide_bucket buckets = first_wide (flat_map (λ b. b.remarks) buckets)

-- what a run answers, a vector seen as the list of its items
abbrev pub items_of : {A E : Type 0} → Result (Vec A Global) E → Result (List A) E
items_of (Ok v) = Ok v.items
items_of (Err e) = Err e

abbrev pub AreBuckets : List Agg → List Pipe → List BucketAnswer → Result (List RemarkedBucket) PipeFault → Type 0
AreBuckets children pipes buckets (Ok remarked) =
    (remarked ≡ map noted (remarked_buckets children pipes buckets)) × (wide_bucket (remarked_buckets children (unsorted pipes) buckets) ≡ None)
AreBuckets children pipes buckets (Err fault) = IsCause (wide_bucket (remarked_buckets children (unsorted pipes) buckets)) fault
