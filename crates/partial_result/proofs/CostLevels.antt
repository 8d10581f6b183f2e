-- The cost of a key and of a node by the costs of their parts.
use Rattle.std.specs.Prelude.{◌≡◌, refl, ℕ, ◌+◌, List, map, sum, sum_by}
use Rattle.std.proofs.Common.{◌∙◌, ap}
use Rattle.std.proofs.lemmas.List.Sums.{sum-map}
use Rattle.agg_model.specs.declared.key.Key.{Key}
use Rattle.agg_model.specs.declared.partial.Bucket.{Bucket}
use Rattle.agg_model.specs.declared.key.Key.TheVariants.{Many}
use Rattle.agg_model.specs.declared.partial.Node.TheVariants.{Keyed, Fixed}
use Rattle.agg_evaluation.specs.Cost.{key_bytes, key_bytes_at, node_cost, node_cost_at, bucket_cost}
use Rattle.agg_evaluation.proofs.FoldLaws.{fold_key-Many}
use Rattle.partial_result.specs.Costs.{cost_of_bucket}
use Rattle.agg_evaluation.proofs.NodeFolds.{fold_bucket, fold_node-Fixed, fold_node-Keyed}

pub key_bytes-Many : (ks : List Key) → key_bytes (Many ks) ≡ sum_by key_bytes ks
key_bytes-Many ks = fold_key-Many key_bytes_at ks ∙ sum-map key_bytes ks

-- the two ways to say what a bucket costs
bucket_is : (b : Bucket) → fold_bucket node_cost_at bucket_cost b ≡ cost_of_bucket b
bucket_is b = ap (λ n. 128 + key_bytes b.key + n) (sum-map node_cost b.children)

buckets_are : (bs : List Bucket) → sum (map (fold_bucket node_cost_at bucket_cost) bs) ≡ sum_by cost_of_bucket bs
buckets_are bs = sum-map (fold_bucket node_cost_at bucket_cost) bs ∙ (λ i. sum_by (λ b. bucket_is b i) bs)

pub node_cost-Keyed : (bs : List Bucket) (error full cut : ℕ) → node_cost (Keyed bs error full cut) ≡ 512 + sum_by cost_of_bucket bs
node_cost-Keyed bs error full cut = fold_node-Keyed node_cost_at bucket_cost bs error full cut ∙ ap (λ n. 512 + n) (buckets_are bs)

pub node_cost-Fixed : (bs : List Bucket) → node_cost (Fixed bs) ≡ 512 + sum_by cost_of_bucket bs
node_cost-Fixed bs = fold_node-Fixed node_cost_at bucket_cost bs ∙ ap (λ n. 512 + n) (buckets_are bs)

-- what proofs on a node's cost rewrite by
pub ruleset cost_levels = (node_cost-Keyed, node_cost-Fixed)

-- what proofs on a key's bytes rewrite by
pub ruleset key_levels = key_bytes-Many
