-- An answer to a search without pipelines stays as it is.
use Rattle.std.specs.Prelude.{◌≡◌, refl, ℕ, ◌+◌, List, [], ◌∷◌, ◌++◌, map, flat_map, filter, not, Option, None}
use Rattle.std.specs.List.{AllByRecursion, enumerate_from}
use Rattle.std.proofs.Common.{◌∙◌, ap}
use Rattle.agg_model.specs.declared.answer.BucketAnswer.{BucketAnswer, out-BucketAnswer, roll-out-BucketAnswer}
use Rattle.agg_model.specs.declared.answer.NodeAnswer.{NodeAnswer, out-NodeAnswer, roll-out-NodeAnswer}
use Rattle.agg_model.specs.declared.answer.Answer.{Answer}
use Rattle.agg_model.specs.declared.aggregation.Agg.{Agg, Agg', Row_of-Agg, end_of-Agg, more_of-Agg}
use Rattle.agg_model.specs.declared.aggregation.Search.{Search}
use Rattle.agg_model.specs.declared.pipeline.Pipe.{Pipe}
use Rattle.agg_model.specs.declared.pipeline.Piped.{Piped}
use Rattle.agg_evaluation.specs.Folds.{fold_aggs}
use Rattle.agg_spec.specs.RangeCheck.{unless, first_path}
use Rattle.agg_spec.specs.Remarks.{Remark, RemarkedNode, RemarkedBucket, Piper, is_bucket_sort, parent_says}
use Rattle.agg_spec.specs.Notes.{Named, named_cmp, named_nodes, note_in_range, object_nodes, object_remarks, from_around, no_parents, piped, piped_bucket, piped_node, piped_nodes, piper, piper_of, pipe_out_of_range, remarks_of, unpiped, with_buckets, with_children}
use Rattle.list_laws.specs.Sorting.{sorted}
use Rattle.list_laws.proofs.Each.{each-sorted}
use Rattle.list_laws.proofs.Lists.{append-nil}

-- without pipelines an aggregation leaves its answer as it is
abbrev IsPlain : Piper → Type 0
IsPlain a = (n : NodeAnswer) → a.piped [] n ≡ unpiped n

abbrev plain_bucket : BucketAnswer → RemarkedBucket
plain_bucket b = record { bucket = b; remarks = [] }

-- a name without remarks
abbrev IsSilent : Named → Type 0
IsSilent e = e.1 ≡ []

nodes-plain : (i : ℕ) (aggs : List Piper) → AllByRecursion IsPlain aggs → (nodes : List NodeAnswer) → piped_nodes i aggs [] nodes ≡ map unpiped nodes
nodes-plain i [] plain nodes = refl
nodes-plain i (a ∷ aggs) plain [] = refl
nodes-plain i (a ∷ aggs) plain (n ∷ nodes) = λ j. (plain.0 n j ∷ nodes-plain (i + 1) aggs plain.1 nodes j)

nodes-taken : (nodes : List NodeAnswer) → map (λ n. n.node) (map unpiped nodes) ≡ nodes
nodes-taken [] = refl
nodes-taken (n ∷ nodes) = ap (λ rest. n ∷ rest) (nodes-taken nodes)

object-nodes-plain : (aggs : List Piper) → AllByRecursion IsPlain aggs → (nodes : List NodeAnswer) → object_nodes aggs [] nodes ≡ nodes
object-nodes-plain aggs plain nodes = ap (map (λ n. n.node)) (nodes-plain 0 aggs plain nodes) ∙ nodes-taken nodes

silent-nodes : (i : ℕ) (aggs : List Piper) (nodes : List NodeAnswer) → AllByRecursion IsSilent (named_nodes i aggs (map unpiped nodes))
silent-nodes i [] nodes = tt
silent-nodes i (a ∷ aggs) [] = tt
silent-nodes i (a ∷ aggs) (n ∷ nodes) = (refl, silent-nodes (i + 1) aggs nodes)

silent-flat : (es : List Named) → AllByRecursion IsSilent es → flat_map (λ e. e.1) es ≡ []
silent-flat [] silent = refl
silent-flat (e ∷ es) silent = ap (λ rs. rs ++ flat_map (λ e. e.1) es) silent.0 ∙ silent-flat es silent.1

object-remarks-plain : (aggs : List Piper) → AllByRecursion IsPlain aggs → (parents : Pipe → List Remark) (nodes : List NodeAnswer) → object_remarks aggs [] parents nodes ≡ []
object-remarks-plain aggs plain parents nodes =
    ap (λ ns. flat_map (λ e. e.1) (sorted named_cmp (named_nodes 0 aggs ns ++ []))) (nodes-plain 0 aggs plain nodes)
    ∙ ap (λ es. flat_map (λ e. e.1) (sorted named_cmp es)) (append-nil (named_nodes 0 aggs (map unpiped nodes)))
    ∙ silent-flat (sorted named_cmp (named_nodes 0 aggs (map unpiped nodes))) (each-sorted IsSilent named_cmp (named_nodes 0 aggs (map unpiped nodes)) (silent-nodes 0 aggs nodes))

bucket-plain : (children : List Piper) → AllByRecursion IsPlain children → (all : List BucketAnswer) (b : ℕ × BucketAnswer) → piped_bucket children [] all b ≡ plain_bucket b.1
bucket-plain children plain all b =
    let nodes = ap (λ ns. with_children ns b.1) (object-nodes-plain children plain (out-BucketAnswer b.1).children) ∙ roll-out-BucketAnswer b.1 in
    let says = λ (p : Pipe). parent_says (map (λ c. c.kind) children) all b.0 p p.kind in
    let silent = object-remarks-plain children plain says (out-BucketAnswer b.1).children in
    λ i. record { bucket = nodes i; remarks = silent i }

buckets-plain : (children : List Piper) → AllByRecursion IsPlain children → (all : List BucketAnswer) (m : ℕ) (bs : List BucketAnswer) → map (piped_bucket children [] all) (enumerate_from m bs) ≡ map plain_bucket bs
buckets-plain children plain all m [] = refl
buckets-plain children plain all m (b ∷ bs) = λ i. (bucket-plain children plain all (m, b) i ∷ buckets-plain children plain all (m + 1) bs i)

buckets-taken : (bs : List BucketAnswer) → map (λ b. b.bucket) (map plain_bucket bs) ≡ bs
buckets-taken [] = refl
buckets-taken (b ∷ bs) = ap (λ rest. b ∷ rest) (buckets-taken bs)

buckets-silent : (m : ℕ) (bs : List BucketAnswer) → flat_map (λ b. map (from_around b.0) b.1.remarks) (enumerate_from m (map plain_bucket bs)) ≡ []
buckets-silent m [] = refl
buckets-silent m (b ∷ bs) = buckets-silent (m + 1) bs

-- a node of these buckets
abbrev node_of : NodeAnswer → List RemarkedBucket → RemarkedNode
node_of n buckets = record {
  node = with_buckets (map (λ b. b.bucket) buckets) n;
  remarks = flat_map (λ b. map (from_around b.0) b.1.remarks) (enumerate_from 0 buckets);
}

node-plain : (children : List Piper) → AllByRecursion IsPlain children → (n : NodeAnswer) → piped_node children [] n ≡ unpiped n
node-plain children plain n =
    let bs = (out-NodeAnswer n).buckets in
    let same = ap (λ xs. with_buckets xs n) (buckets-taken bs) ∙ roll-out-NodeAnswer n in
    ap (node_of n) (buckets-plain children plain bs 0 bs) ∙ (λ i. record { node = same i; remarks = buckets-silent 0 bs i })

mutual
  agg-plain : (a : Agg) → IsPlain (piper a)
  agg-plain (Agg' name kind n children) = node-plain (fold_aggs piper_of children) (row-plain children)

  row-plain : {n : _} (row : Row_of-Agg n) → AllByRecursion IsPlain (fold_aggs piper_of row)
  row-plain end_of-Agg = tt
  row-plain (more_of-Agg a rest) = (agg-plain a, row-plain rest)

aggs-plain : (aggs : List Agg) → AllByRecursion IsPlain (map piper aggs)
aggs-plain [] = tt
aggs-plain (a ∷ aggs) = (agg-plain a, aggs-plain aggs)

-- the answer with the notes of these pipelines
abbrev piped_by : Search → Answer → List Pipe → Piped
piped_by search answer pipes = record {
  answer = record { hits = answer.hits; nodes = object_nodes (map piper search.aggs) pipes answer.nodes };
  notes = map (λ r. r.note) (remarks_of search pipes answer);
}

no-remarks : (search : Search) (answer : Answer) → remarks_of search [] answer ≡ []
no-remarks search answer = object-remarks-plain (map piper search.aggs) (aggs-plain search.aggs) no_parents answer.nodes

pub piped-plain : (search : Search) (answer : Answer) → search.pipes ≡ [] → piped search answer ≡ record { answer = answer; notes = [] }
piped-plain search answer none =
    let nodes = object-nodes-plain (map piper search.aggs) (aggs-plain search.aggs) answer.nodes in
    let silent = ap (map (λ r. r.note)) (no-remarks search answer) in
    ap (piped_by search answer) none ∙ (λ i. record { answer = record { hits = answer.hits; nodes = nodes i }; notes = silent i })

pub plain-in-range : (search : Search) (answer : Answer) → search.pipes ≡ [] → pipe_out_of_range search answer ≡ None
plain-in-range search answer none =
    ap (λ pipes. first_path (flat_map (λ r. unless (note_in_range r.note) r.path) (remarks_of search (filter (λ p. not (is_bucket_sort p.kind)) pipes) answer))) none
    ∙ ap (λ rs. first_path (flat_map (λ r. unless (note_in_range r.note) r.path) rs)) (no-remarks search answer)
