-- The folds over a tree, one level at a time.
use Rattle.std.specs.Prelude.{◌≡◌, refl, ℕ, List, [], ◌∷◌, map}
use Rattle.std.proofs.Common.{ap}
use Rattle.agg_model.specs.declared.partial.Bucket.{Bucket}
use Rattle.agg_model.specs.declared.partial.Metric.{Metric}
use Rattle.agg_model.specs.declared.partial.Node.{Node, Row_of-Bucket, end_of-Bucket, more_of-Bucket}
use Rattle.agg_model.specs.declared.partial.Node.TheOpen.{Node-F, Bucket-F}
use Rattle.agg_model.specs.declared.partial.Node.TheVariants as node
use Rattle.agg_evaluation.specs.Folds.{fold_node, fold_nodes, fold_buckets}
use Rattle.agg_evaluation.proofs.Computing.{computing}

module _ {A B : Type 0} (step : Node-F A B → A) (bucket_step : Bucket-F A B → B) where
  -- what the fold gives for a bucket
  abbrev pub fold_bucket : Bucket → B
  fold_bucket b = bucket_step (record { key = b.key; count = b.count; covered = b.covered; children = map (fold_node step bucket_step) b.children })

  -- what the fold gives for the children of the first bucket
  abbrev first_children : {n : _} → Row_of-Bucket n → List A
  first_children end_of-Bucket = []
  first_children (more_of-Bucket key count covered n children rest) = fold_nodes step bucket_step children

  -- the same, of the first bucket of a node
  abbrev children_in : Node → List A
  children_in (node.Fixed' n buckets) = first_children buckets
  children_in _ = []

  -- it is the fold of each of them
  children_are : (b : Bucket) (ns : List Node) → children_in (node.Fixed (record b { children = ns } ∷ [])) ≡ map (fold_node step bucket_step) ns
  unfolding computing
  children_are b [] = refl
  children_are b (n ∷ ns) = ap (λ xs. fold_node step bucket_step n ∷ xs) (children_are b ns)

  -- what the fold gives for the buckets of a node
  abbrev buckets_in : Node → List B
  buckets_in (node.Keyed' n buckets error full cut) = fold_buckets step bucket_step buckets
  buckets_in (node.Fixed' n buckets) = fold_buckets step bucket_step buckets
  buckets_in (node.Number m) = []

  -- it is the fold of each of them
  buckets_are : (bs : List Bucket) → buckets_in (node.Fixed bs) ≡ map fold_bucket bs
  unfolding computing
  buckets_are [] = refl
  buckets_are (b ∷ bs) = λ i. bucket_step (record { key = b.key; count = b.count; covered = b.covered; children = children_are b b.children i }) ∷ buckets_are bs i

  -- a node of buckets that exist from the start
  pub fold_node-Fixed : (bs : List Bucket) → fold_node step bucket_step (node.Fixed bs) ≡ step (Node-F.Fixed (map fold_bucket bs))
  unfolding computing
  fold_node-Fixed bs = ap (λ xs. step (Node-F.Fixed xs)) (buckets_are bs)

  -- a node of buckets by key
  pub fold_node-Keyed : (bs : List Bucket) (error full cut : ℕ) → fold_node step bucket_step (node.Keyed bs error full cut) ≡ step (Node-F.Keyed (map fold_bucket bs) error full cut)
  unfolding computing
  fold_node-Keyed bs error full cut = ap (λ xs. step (Node-F.Keyed xs error full cut)) (buckets_are bs)

  -- a node of a number
  pub fold_node-Number : (m : Metric) → fold_node step bucket_step (node.Number m) ≡ step (Node-F.Number m)
  fold_node-Number m = refl
