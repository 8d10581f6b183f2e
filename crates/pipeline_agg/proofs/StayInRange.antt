-- What pipelines leave of an answer has no number that the answer has not.
use Rattle.std.specs.Prelude.{◌≡◌, refl, ℕ, ◌+◌, List, [], ◌∷◌, ◌++◌, map, flat_map, None, codes}
use Rattle.std.specs.List.{AllByRecursion, AllZip, enumerate_from}
use Rattle.std.proofs.Common.{◌∙◌, sym, ap, subst}
use Rattle.agg_evaluation.specs.Folds.{fold_aggs}
use Rattle.agg_model.specs.declared.aggregation.Agg.{Agg, Agg', Row_of-Agg, end_of-Agg, more_of-Agg}
use Rattle.agg_model.specs.declared.aggregation.Agg.TheOpen.{Agg-F}
use Rattle.agg_model.specs.declared.answer.BucketAnswer.{BucketAnswer, out-BucketAnswer, out-roll-BucketAnswer}
use Rattle.agg_model.specs.declared.answer.BucketAnswer.TheOpen.{BucketAnswer-F, NodeAnswer-F}
use Rattle.agg_model.specs.declared.answer.NodeAnswer.{NodeAnswer, out-NodeAnswer, out-roll-NodeAnswer}
use Rattle.agg_model.specs.declared.aggregation.Kind.{Kind}
use Rattle.agg_model.specs.declared.pipeline.Pipe.{Pipe}
use Rattle.agg_spec.proofs.ArrangedLaws.{each-arranged}
use Rattle.agg_spec.specs.Notes.{object_nodes, piped_bucket, piped_buckets, piped_node, piped_nodes, piper, piper_of, pipes_within}
use Rattle.agg_spec.specs.RangeCheck.{Checker, check_bucket, check_each, checker, key_in_range, sum_in_range, unless}
use Rattle.agg_spec.specs.Remarks.{Piper, RemarkedBucket as Remarked}
use Rattle.pipeline_agg.proofs.InRange.{no-first, no-second}

-- an aggregation, and what is looked at in its answers
abbrev StaysInRange : Piper → Checker → Type 0
StaysInRange p c = (pipes : List Pipe) (n : NodeAnswer) → c n ≡ [] → c (p.piped pipes n).node ≡ []

abbrev Alike : List Piper → List Checker → Type 0
Alike = AllZip StaysInRange

-- what is looked at in the answers to one aggregation
abbrev looks : Agg-F Checker → Checker
looks a n =
    map (λ path. codes "/" ++ (a.name ++ path))
    (unless (sum_in_range a.kind (out-NodeAnswer n).metric.sum) [] ++ flat_map (check_bucket a.children) (out-NodeAnswer n).buckets)

both-none : (xs ys : List (List ℕ)) → xs ≡ [] → ys ≡ [] → xs ++ ys ≡ []
both-none xs ys e f = λ i. e i ++ f i

nodes-stay : (i : ℕ) (ps : List Piper) (cs : List Checker) → Alike ps cs → (pipes : List Pipe) (nodes : List NodeAnswer) → check_each cs nodes ≡ [] → check_each cs (map (λ n. n.node) (piped_nodes i ps pipes nodes)) ≡ []
nodes-stay i [] [] alike pipes nodes h = refl
nodes-stay i [] (c ∷ cs) alike pipes nodes h = absurd alike
nodes-stay i (p ∷ ps) [] alike pipes nodes h = absurd alike
nodes-stay i (p ∷ ps) (c ∷ cs) alike pipes [] h = refl
nodes-stay i (p ∷ ps) (c ∷ cs) alike pipes (n ∷ nodes) h =
    both-none (c (p.piped (pipes_within i pipes) n).node) (check_each cs (map (λ m. m.node) (piped_nodes (i + 1) ps pipes nodes)))
    (alike.0 (pipes_within i pipes) n (no-first (c n) (check_each cs nodes) h)) (nodes-stay (i + 1) ps cs alike.1 pipes nodes (no-second (c n) (check_each cs nodes) h))

module _ (ps : List Piper) (cs : List Checker) (alike : Alike ps cs) (pipes : List Pipe) where
  abbrev InRange : Remarked → Type 0
  InRange b = check_bucket cs b.bucket ≡ []

  bucket-stays : (all : List BucketAnswer) (i : ℕ) (b : BucketAnswer) → check_bucket cs b ≡ [] → InRange (piped_bucket ps pipes all (i, b))
  bucket-stays all i b h =
      let key = unless (key_in_range (out-BucketAnswer b).key) [] in
      ap (λ (x : BucketAnswer-F BucketAnswer NodeAnswer). unless (key_in_range x.key) [] ++ check_each cs x.children)
      (out-roll-BucketAnswer (record {
        key = (out-BucketAnswer b).key;
        count = (out-BucketAnswer b).count;
        error = (out-BucketAnswer b).error;
        children = object_nodes ps pipes (out-BucketAnswer b).children;
      }))
      ∙ both-none key (check_each cs (object_nodes ps pipes (out-BucketAnswer b).children)) (no-first key (check_each cs (out-BucketAnswer b).children) h)
      (nodes-stay 0 ps cs alike pipes (out-BucketAnswer b).children (no-second key (check_each cs (out-BucketAnswer b).children) h))

  buckets-stay : (all : List BucketAnswer) (i : ℕ) (bs : List BucketAnswer) → flat_map (check_bucket cs) bs ≡ [] → AllByRecursion InRange (map (piped_bucket ps pipes all) (enumerate_from i bs))
  buckets-stay all i [] h = tt
  buckets-stay all i (b ∷ bs) h = (
    bucket-stays all i b (no-first (check_bucket cs b) (flat_map (check_bucket cs) bs) h),
    buckets-stay all (i + 1) bs (no-second (check_bucket cs b) (flat_map (check_bucket cs) bs) h),
  )

  all-stay : (bs : List Remarked) → AllByRecursion InRange bs → flat_map (check_bucket cs) (map (λ b. b.bucket) bs) ≡ []
  all-stay [] h = refl
  all-stay (b ∷ bs) h = both-none (check_bucket cs b.bucket) (flat_map (check_bucket cs) (map (λ c. c.bucket) bs)) h.0 (all-stay bs h.1)

  node-stays : (name : List ℕ) (kind : Kind) (n : NodeAnswer) → looks (record { name = name; kind = kind; children = cs }) n ≡ [] → looks (record { name = name; kind = kind; children = cs }) (piped_node ps pipes n).node ≡ []
  node-stays name kind n h =
      let sum = unless (sum_in_range kind (out-NodeAnswer n).metric.sum) [] in
      let inside : sum ++ flat_map (check_bucket cs) (out-NodeAnswer n).buckets ≡ [] = none-mapped (λ path. codes "/" ++ (name ++ path)) _ h in
      let bs = piped_buckets ps pipes (out-NodeAnswer n).buckets in
      let there : AllByRecursion InRange bs =
      each-arranged InRange (map (λ c. c.kind) ps) pipes (map (piped_bucket ps pipes (out-NodeAnswer n).buckets) (enumerate_from 0 (out-NodeAnswer n).buckets))
      (buckets-stay (out-NodeAnswer n).buckets 0 (out-NodeAnswer n).buckets (no-second sum (flat_map (check_bucket cs) (out-NodeAnswer n).buckets) inside)) in
      ap (λ (x : NodeAnswer-F BucketAnswer NodeAnswer).
      map (λ path. codes "/" ++ (name ++ path)) (unless (sum_in_range kind x.metric.sum) [] ++ flat_map (check_bucket cs) x.buckets))
      (out-roll-NodeAnswer (record {
        name = (out-NodeAnswer n).name;
        buckets = map (λ b. b.bucket) bs;
        error = (out-NodeAnswer n).error;
        other = (out-NodeAnswer n).other;
        metric = (out-NodeAnswer n).metric;
      }))
      ∙ ap (map (λ path. codes "/" ++ (name ++ path))) (both-none sum (flat_map (check_bucket cs) (map (λ b. b.bucket) bs)) (no-first sum (flat_map (check_bucket cs) (out-NodeAnswer n).buckets) inside) (all-stay bs there)) where
        none-mapped : {X Y : Type 0} (f : X → Y) (xs : List X) → map f xs ≡ [] → xs ≡ []
        none-mapped f [] e = refl
        none-mapped f (x ∷ xs) e = absurd (cc (e))

mutual
  agg-stays : (a : Agg) → StaysInRange (piper a) (checker a)
  agg-stays (Agg' name kind n children) pipes m h = node-stays (fold_aggs piper_of children) (fold_aggs looks children) (row-stays children) pipes name kind m h

  row-stays : {n : _} (row : Row_of-Agg n) → Alike (fold_aggs piper_of row) (fold_aggs looks row)
  row-stays end_of-Agg = tt
  row-stays (more_of-Agg a rest) = (agg-stays a, row-stays rest)

aggs-stay : (aggs : List Agg) → Alike (map piper aggs) (map checker aggs)
aggs-stay [] = tt
aggs-stay (a ∷ aggs) = (agg-stays a, aggs-stay aggs)

pub answer-stays : (aggs : List Agg) (pipes : List Pipe) (nodes : List NodeAnswer) → check_each (map checker aggs) nodes ≡ [] → check_each (map checker aggs) (object_nodes (map piper aggs) pipes nodes) ≡ []
answer-stays aggs pipes nodes h = nodes-stay 0 (map piper aggs) (map checker aggs) (aggs-stay aggs) pipes nodes h
