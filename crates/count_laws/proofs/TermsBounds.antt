-- By descending count the true count of each returned term lies between its count and that plus its error, and a term that no shard
-- returned has at most the whole error.
use Rattle.std.specs.Prelude.{◌≡◌, ◌≤◌, ℕ, ◌+◌, ◌-◌, false, List, [], ◌∷◌, map, filter, flat_map, sum_by}
use Rattle.std.specs.List.{AllByRecursion}
use Rattle.std.proofs.Common.{sym, ◌∙◌, ap, subst, arith}
use Rattle.std.proofs.lemmas.List.Sums.{sum_by-cons}
use Rattle.agg_model.specs.declared.key.Key.{Key}
use Rattle.agg_model.specs.declared.partial.Bucket.{Bucket}
use Rattle.agg_model.specs.declared.partial.Node.{Node}
use Rattle.agg_model.specs.declared.aggregation.Kind.{Kind}
use Rattle.agg_evaluation.specs.KeyOrder.{key_eq, has_key}
use Rattle.agg_evaluation.specs.Keys.{distinct_keys}
use Rattle.agg_evaluation.specs.Orders.{bucket_key, bucket_count}
use Rattle.agg_evaluation.specs.Whole.{Parts, parts, parts_at, whole_bucket, whole_by, by_key}
use Rattle.list_laws.proofs.Lists.{sum_by-map, sum_by-flat_map}
use Rattle.agg_evaluation.proofs.KeyLists.{has_key-distinct_keys}
use Rattle.agg_evaluation.proofs.NodeForms.{out-Keyed}
use Rattle.agg_evaluation.proofs.UnionLaws.{keys-whole}
use Rattle.list_laws.proofs.Each.{each-map}
use Rattle.count_laws.proofs.ShardBounds.{Bounds, no-bucket, of_key, sum_by-filter}

-- a bucket of a whole, against the true count of its key
pub record Within (true_count : Key → ℕ) (error : ℕ) (b : Bucket) : Type 0 where
  pub low : bucket_count b ≤ true_count (bucket_key b)
  pub high : true_count (bucket_key b) ≤ bucket_count b + (error - b.covered)

-- S are shards, each with its tree and the true count of each key there
module _ {S : Type 0} (tree : S → Node) (truth : S → Key → ℕ) (bounds : (s : S) (q : Key) → Bounds q (truth s q) (parts (tree s))) where
  abbrev pub true_sum : List S → Key → ℕ
  true_sum shards q = sum_by (λ s. truth s q) shards

  -- a number of the buckets of a key in all trees
  in_all : (q : Key) (f : Bucket → ℕ) (shards : List S)
      → sum_by f (filter (λ b. key_eq q (bucket_key b)) (flat_map (λ t. (parts t).buckets) (map tree shards))) ≡ sum_by (λ s. sum_by (of_key q f) (parts (tree s)).buckets) shards
  in_all q f shards =
      sum_by-filter (λ b. key_eq q (bucket_key b)) f (flat_map (λ t. (parts t).buckets) (map tree shards))
      ∙ sum_by-flat_map (of_key q f) (λ t. (parts t).buckets) (map tree shards)
      ∙ sum_by-map (λ t. sum_by (of_key q f) (parts t).buckets) tree shards

  low_sum : (q : Key) (shards : List S) → sum_by (λ s. sum_by (of_key q bucket_count) (parts (tree s)).buckets) shards ≤ true_sum shards q
  low_sum q [] = omega arith
  low_sum q (s ∷ ss) = omega (arith, (bounds s q).low, low_sum q ss, sum_by-cons (λ s. sum_by (of_key q bucket_count) (parts (tree s)).buckets) s ss, sum_by-cons (λ s. truth s q) s ss)

  high_sum : (q : Key) (shards : List S)
      → true_sum shards q + sum_by (λ s. sum_by (of_key q (λ b. b.covered)) (parts (tree s)).buckets) shards
      ≤ sum_by (λ s. sum_by (of_key q bucket_count) (parts (tree s)).buckets) shards + sum_by (λ s. (parts (tree s)).error) shards
  high_sum q [] = omega arith
  high_sum q (s ∷ ss) =
      omega (
        arith,
        (bounds s q).high,
        high_sum q ss,
        sum_by-cons (λ s. truth s q) s ss,
        sum_by-cons (λ s. sum_by (of_key q (λ b. b.covered)) (parts (tree s)).buckets) s ss,
        sum_by-cons (λ s. sum_by (of_key q bucket_count) (parts (tree s)).buckets) s ss,
        sum_by-cons (λ s. (parts (tree s)).error) s ss,
      )

  pub whole_by-within : (cs : List (List Node → Node)) (k : Kind) (shards : List S)
      → let w = parts (whole_by cs k by_key (map tree shards)) in AllByRecursion (Within (true_sum shards) w.error) w.buckets
  whole_by-within cs k shards =
      let trees = map tree shards in
      let all = flat_map (λ t. (parts t).buckets) trees in
      let ks = distinct_keys (map bucket_key all) in
      let errors = sum_by (λ t. (parts t).error) trees in
      let within : (q : Key) → Within (true_sum shards) errors (whole_bucket cs all q) =
      (λ q. record {
        low = omega (arith, in_all q bucket_count shards, low_sum q shards);
        high = omega (arith, in_all q bucket_count shards, in_all q (λ b. b.covered) shards, high_sum q shards, sum_by-map (λ t. (parts t).error) tree shards);
      }) in
      subst (λ (p : Parts). AllByRecursion (Within (true_sum shards) p.error) p.buckets)
      (sym (ap parts_at (out-Keyed (map (whole_bucket cs all) ks) errors (sum_by (λ t. (parts t).full) trees) (sum_by (λ t. (parts t).cut) trees))))
      (each-map (Within (true_sum shards) errors) (whole_bucket cs all) ks within)

  -- a term that no shard returned
  pub whole_by-lost : (cs : List (List Node → Node)) (k : Kind) (shards : List S) (q : Key)
      → let w = parts (whole_by cs k by_key (map tree shards)) in has_key q (map bucket_key w.buckets) ≡ false → true_sum shards q ≤ w.error
  whole_by-lost cs k shards q absent =
      let trees = map tree shards in
      let all = flat_map (λ t. (parts t).buckets) trees in
      let ks = distinct_keys (map bucket_key all) in
      let errors = sum_by (λ t. (parts t).error) trees in
      let is = ap parts_at (out-Keyed (map (whole_bucket cs all) ks) errors (sum_by (λ t. (parts t).full) trees) (sum_by (λ t. (parts t).cut) trees)) in
      let among : has_key q (map bucket_key all) ≡ false =
      sym (has_key-distinct_keys q (map bucket_key all)) ∙ sym (ap (λ (p : Parts). has_key q (map bucket_key p.buckets)) is ∙ ap (has_key q) (keys-whole cs all ks)) ∙ absent in
      let none : sum_by bucket_count (filter (λ b. key_eq q (bucket_key b)) all) ≡ 0 = ap (sum_by bucket_count) (no-bucket q all among) in
      subst (λ (p : Parts). true_sum shards q ≤ p.error) (sym is)
      (omega (arith, none, in_all q bucket_count shards, high_sum q shards, sum_by-map (λ t. (parts t).error) tree shards))
