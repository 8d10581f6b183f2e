-- What prints in an object is what the remarks of the object tell.
use Rattle.std.specs.Prelude.{◌≡◌, refl, ℕ, ◌+◌, true, List, [], ◌∷◌, ◌++◌, map, flat_map, None, Ok, Err}
use Rattle.std.proofs.Common.{◌∙◌, sym, ap, subst}
use Rattle.std.proofs.lemmas.Bool.{false≢true}
use Rattle.agg_evaluation.proofs.AggFolds.{fold_agg-level}
use Rattle.agg_model.specs.declared.aggregation.Agg.{Agg, out-Agg}
use Rattle.agg_model.specs.declared.answer.NodeAnswer.{NodeAnswer}
use Rattle.agg_model.specs.declared.pipeline.Note.{Note}
use Rattle.agg_model.specs.declared.pipeline.Pipe.{Pipe}
use Rattle.agg_model.specs.declared.pipeline.PipeKind.{PipeKind}
use Rattle.agg_model.specs.declared.pipeline.PipeKind.TheVariants as pipe
use Rattle.agg_spec.specs.Notes.{Named, below_agg, named_cmp, named_nodes, object_remarks, piped_node, piped_nodes, piper, piper_of, pipes_within}
use Rattle.agg_spec.specs.Remarks.{Piper, Remark, RemarkedNode, is_bucket_sort, pipes_here, sibling_says}
use Rattle.list_laws.proofs.Lists.{map-append, map-map}
use Rattle.list_laws.specs.Sorting.{sorted}
use Rattle.pipeline_agg.specs.Entries.{AreFit, IsGathered, View, entry_cmp, first_said_wide, pipe_entry, said_notes}
use Rattle.pipeline_agg.specs.Objects.{node_entries, object_entries}
use Rattle.pipeline_agg.specs.Told.{IsCause, first_wide, notes_of, unsorted}
use Rattle.pipeline_agg.specs.declared.fault.PipeFault.{PipeFault}
use Rattle.pipeline_agg.proofs.Silent.{here-unsorted, remarks_of_all, within-unsorted, without-sorts}
use Rattle.pipeline_agg.proofs.Views.{Printed, kept-sorted, kept_named, looked-sorted, looked_named, printed_cmp, told, told-fit, told-notes, told-sorted, told-wide}

pub piper-name : (a : Agg) → (piper a).name ≡ (out-Agg a).name
piper-name a = ap (λ (p : Piper). p.name) (fold_agg-level piper_of a)

pub piper-piped : (a : Agg) (pipes : List Pipe) (n : NodeAnswer) → (piper a).piped pipes n ≡ piped_node (map piper (out-Agg a).children) pipes n
piper-piped a pipes n = ap (λ (p : Piper). p.piped pipes n) (fold_agg-level piper_of a)

abbrev printed_node : ℕ → Agg → List Pipe → NodeAnswer → Printed
printed_node i a pipes n = record {
  name = (out-Agg a).name;
  looked_at = map (below_agg i (out-Agg a).name) ((piper a).piped (unsorted pipes) n).remarks;
  kept = map (below_agg i (out-Agg a).name) ((piper a).piped pipes n).remarks;
}

abbrev printed_nodes : ℕ → List Agg → List Pipe → List NodeAnswer → List Printed
printed_nodes i [] pipes nodes = []
printed_nodes i (a ∷ aggs) pipes [] = []
printed_nodes i (a ∷ aggs) pipes (n ∷ nodes) = printed_node i a (pipes_within i pipes) n ∷ printed_nodes (i + 1) aggs pipes nodes

told-nodes : (i : ℕ) (aggs : List Agg) (pipes : List Pipe) (nodes : List NodeAnswer) → map told (printed_nodes i aggs pipes nodes) ≡ node_entries i aggs pipes nodes
told-nodes i [] pipes nodes = refl
told-nodes i (a ∷ aggs) pipes [] = refl
told-nodes i (a ∷ aggs) pipes (n ∷ nodes) = ap (λ es. told (printed_node i a (pipes_within i pipes) n) ∷ es) (told-nodes (i + 1) aggs pipes nodes)

kept-nodes : (i : ℕ) (aggs : List Agg) (pipes : List Pipe) (nodes : List NodeAnswer) → map kept_named (printed_nodes i aggs pipes nodes) ≡ named_nodes i (map piper aggs) (piped_nodes i (map piper aggs) pipes nodes)
kept-nodes i [] pipes nodes = refl
kept-nodes i (a ∷ aggs) pipes [] = refl
kept-nodes i (a ∷ aggs) pipes (n ∷ nodes) =
    let name = sym (piper-name a) in
    let rs = ((piper a).piped (pipes_within i pipes) n).remarks in
    λ j. (name j, map (below_agg i (name j)) rs) ∷ kept-nodes (i + 1) aggs pipes nodes j

looked-nodes : (i : ℕ) (aggs : List Agg) (pipes : List Pipe) (nodes : List NodeAnswer)
    → map looked_named (printed_nodes i aggs pipes nodes) ≡ named_nodes i (map piper aggs) (piped_nodes i (map piper aggs) (unsorted pipes) nodes)
looked-nodes i [] pipes nodes = refl
looked-nodes i (a ∷ aggs) pipes [] = refl
looked-nodes i (a ∷ aggs) pipes (n ∷ nodes) =
    let name = sym (piper-name a) in
    let within = sym (within-unsorted i pipes) in
    λ j. (name j, map (below_agg i (name j)) ((piper a).piped (within j) n).remarks) ∷ looked-nodes (i + 1) aggs pipes nodes j

quiet-sibling : (aggs : List Piper) (nodes : List NodeAnswer) (p : Pipe) (k : PipeKind) → is_bucket_sort k ≡ true → sibling_says aggs nodes p k ≡ []
quiet-sibling aggs nodes p (pipe.CumulativeSum at) e = absurd (false≢true e)
quiet-sibling aggs nodes p (pipe.Derivative at) e = absurd (false≢true e)
quiet-sibling aggs nodes p (pipe.SumBucket i at) e = absurd (false≢true e)
quiet-sibling aggs nodes p (pipe.MinBucket i at) e = absurd (false≢true e)
quiet-sibling aggs nodes p (pipe.MaxBucket i at) e = absurd (false≢true e)
quiet-sibling aggs nodes p (pipe.BucketSort sort start size) e = refl

-- an object with what its own pipelines say as siblings, and as parents
module _ (aggs : List Agg) (pipes : List Pipe) (nodes : List NodeAnswer) (parents : Pipe → List Remark) (quiet : (p : Pipe) → is_bucket_sort p.kind ≡ true → parents p ≡ []) where
  abbrev says : Pipe → List Remark
  says p = sibling_says (map piper aggs) nodes p p.kind ++ parents p

  abbrev printed_pipe : Pipe → Printed
  printed_pipe p = record { name = p.name; looked_at = says p; kept = says p }

  abbrev all : List Printed
  all = printed_nodes 0 aggs pipes nodes ++ map printed_pipe (pipes_here pipes)

  abbrev own_entries : List View
  own_entries = map (λ p. pipe_entry p (says p)) (pipes_here pipes)

  quiet-all : (p : Pipe) → is_bucket_sort p.kind ≡ true → says p ≡ []
  quiet-all p e = λ i. quiet-sibling (map piper aggs) nodes p p.kind e i ++ quiet p e i

  entries-are : object_entries aggs pipes own_entries nodes ≡ map told (sorted printed_cmp all)
  entries-are =
      ap (sorted entry_cmp) (sym (map-append told (printed_nodes 0 aggs pipes nodes) (map printed_pipe (pipes_here pipes))
      ∙ (λ i. told-nodes 0 aggs pipes nodes i ++ map-map told printed_pipe (pipes_here pipes) i)))
      ∙ sym (told-sorted all)

  kept-all : flat_map (λ p. p.kept) (sorted printed_cmp all) ≡ object_remarks (map piper aggs) pipes parents nodes
  kept-all =
      kept-sorted all
      ∙ ap (λ es. remarks_of_all (sorted named_cmp es)) (map-append kept_named (printed_nodes 0 aggs pipes nodes) (map printed_pipe (pipes_here pipes))
      ∙ (λ i. kept-nodes 0 aggs pipes nodes i ++ map-map kept_named printed_pipe (pipes_here pipes) i))

  looked-all : flat_map (λ p. p.looked_at) (sorted printed_cmp all) ≡ object_remarks (map piper aggs) (unsorted pipes) parents nodes
  looked-all =
      let below = named_nodes 0 (map piper aggs) (piped_nodes 0 (map piper aggs) (unsorted pipes) nodes) in
      looked-sorted all
      ∙ ap (λ es. remarks_of_all (sorted named_cmp es)) (map-append looked_named (printed_nodes 0 aggs pipes nodes) (map printed_pipe (pipes_here pipes))
      ∙ (λ i. looked-nodes 0 aggs pipes nodes i ++ map-map looked_named printed_pipe (pipes_here pipes) i))
      ∙ sym (without-sorts says quiet-all below (pipes_here pipes))
      ∙ ap (λ ps. remarks_of_all (sorted named_cmp (below ++ map (λ p. (p.name, says p)) ps))) (sym (here-unsorted pipes))

  module _ (own : List View) (own-is : own ≡ own_entries) where
    here : object_entries aggs pipes own nodes ≡ map told (sorted printed_cmp all)
    here = ap (λ es. object_entries aggs pipes es nodes) own-is ∙ entries-are

    -- the first path that is told
    pub object-wide : first_said_wide (object_entries aggs pipes own nodes) ≡ first_wide (object_remarks (map piper aggs) (unsorted pipes) parents nodes)
    object-wide = ap first_said_wide here ∙ told-wide (sorted printed_cmp all) ∙ ap first_wide looked-all

    pub object-fault : (f : PipeFault) → IsCause (first_said_wide (object_entries aggs pipes own nodes)) f → IsCause (first_wide (object_remarks (map piper aggs) (unsorted pipes) parents nodes)) f
    object-fault f h = subst (λ w. IsCause w f) object-wide h

    pub object-notes : (notes : List Note) → AreFit (object_entries aggs pipes own nodes) → notes ≡ flat_map (λ e. said_notes e.1) (object_entries aggs pipes own nodes)
        → notes ≡ notes_of (object_remarks (map piper aggs) pipes parents nodes)
    object-notes notes fit h =
        h ∙ ap (flat_map (λ e. said_notes e.1)) here ∙ told-notes (sorted printed_cmp all) (subst AreFit here fit) ∙ ap notes_of kept-all

    pub object-fit : AreFit (object_entries aggs pipes own nodes) → first_wide (object_remarks (map piper aggs) (unsorted pipes) parents nodes) ≡ None
    object-fit fit = sym (ap first_wide looked-all) ∙ told-fit (sorted printed_cmp all) (subst AreFit here fit)
