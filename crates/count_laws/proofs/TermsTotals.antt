-- All keys of the rows are in an answer to terms: returned, other, or below the minimum count.
use Rattle.std.specs.Prelude.{◌≡◌, refl, ℕ, ◌+◌, ◌-◌, ◌==◌, Bool, if◌then◌else◌, List, [], ◌∷◌, map, flat_map, length, take, sum_by, None, unwrap_or}
use Rattle.std.specs.List.{last_or}
use Rattle.std.proofs.Common.{sym, ◌∙◌, ap, arith}
use Rattle.std.proofs.lemmas.List.Sums.{sum_by-cons, sum_by-take-le}
use Rattle.list_laws.proofs.Lists.{length-flat_map, sum_by-map, sum_by-flat_map}
use Rattle.agg_model.specs.declared.key.Key.{Key}
use Rattle.agg_model.specs.declared.partial.Node.{Node}
use Rattle.agg_model.specs.declared.aggregation.Kind.{Kind}
use Rattle.agg_model.specs.declared.aggregation.Order.{Order}
use Rattle.agg_evaluation.specs.KeyOrder.{key_cmp}
use Rattle.agg_evaluation.specs.Rows.{PlacedRow}
use Rattle.agg_evaluation.specs.Keys.{keys, distinct_keys}
use Rattle.agg_evaluation.specs.Groups.{group, all_keys, total_key_count}
use Rattle.list_laws.specs.Sorting.{sorted}
use Rattle.agg_evaluation.specs.Orders.{bucket_cmp, bucket_key, bucket_count}
use Rattle.agg_evaluation.specs.Shard.{Collector, bucket_of, trimmed_node, sorted_by_key, with_covered}
use Rattle.agg_evaluation.specs.Whole.{Parts, parts, parts_at, whole_bucket, whole_by, by_key}
use Rattle.agg_evaluation.proofs.CounterLaws.{counters-groups, raised_by-sum}
use Rattle.agg_evaluation.proofs.NodeForms.{out-Keyed}
use Rattle.count_laws.proofs.GroupSums.{sum_by-distinct}
use Rattle.list_laws.proofs.Each.{sum_by-sorted}

-- what a tree holds and cut
abbrev pub tree_count : Parts → ℕ
tree_count p = p.cut + sum_by bucket_count p.buckets

-- a whole holds and cut what its trees held and cut
pub whole_by-count : (cs : List (List Node → Node)) (k : Kind) (trees : List Node) → tree_count (parts (whole_by cs k by_key trees)) ≡ sum_by (λ t. tree_count (parts t)) trees
whole_by-count cs k trees =
    let buckets = flat_map (λ t. (parts t).buckets) trees in
    let ks = distinct_keys (map bucket_key buckets) in
    ap (λ p. tree_count (parts_at p)) (out-Keyed (map (whole_bucket cs buckets) ks) (sum_by (λ t. (parts t).error) trees) (sum_by (λ t. (parts t).full) trees) (sum_by (λ t. (parts t).cut) trees))
    ∙ ap (λ n. sum_by (λ t. (parts t).cut) trees + n)
    (sum_by-map bucket_count (whole_bucket cs buckets) ks ∙ sum_by-distinct bucket_key bucket_count buckets ∙ sum_by-flat_map bucket_count (λ t. (parts t).buckets) trees)
    ∙ added trees
  where
    added : (ts : List Node) → sum_by (λ t. (parts t).cut) ts + sum_by (λ t. sum_by bucket_count (parts t).buckets) ts ≡ sum_by (λ t. tree_count (parts t)) ts
    added [] = refl
    added (t ∷ ts) = omega (arith, sum_by-cons (λ t. (parts t).cut) t ts, sum_by-cons (λ t. sum_by bucket_count (parts t).buckets) t ts, sum_by-cons (λ t. tree_count (parts t)) t ts, added ts)

abbrev number : Key × ℕ → ℕ
number c = c.1

-- the sizes of the groups add up to the number of all keys
pub groups-count : (all : List PlacedRow) (k : Kind) (rows : List PlacedRow) → sum_by (λ q. length (group all k rows q)) (all_keys all k rows) ≡ total_key_count all k rows
groups-count all k rows =
    sym (sum_by-map number (λ q. (q, length (group all k rows q))) (all_keys all k rows))
    ∙ ap (sum_by number) (sym (counters-groups all k rows))
    ∙ raised_by-sum (flat_map (keys all k) rows) []
    ∙ omega (arith, length-flat_map (keys all k) rows)

-- a shard holds and cut all keys of its rows
pub trimmed_node-count : (kinds : List Kind) (shard_size : ℕ) (order : List Order) (trims : Bool) (all roots : List PlacedRow) (k : Kind) (children : List Collector) (rows : List PlacedRow)
    → tree_count (parts (trimmed_node kinds shard_size order (total_key_count all k rows) (map (bucket_of trims all roots k children rows) (all_keys all k rows)))) ≡ total_key_count all k rows
trimmed_node-count kinds shard_size order trims all roots k children rows =
    let buckets = map (bucket_of trims all roots k children rows) (all_keys all k rows) in
    let kept = take shard_size (sorted (bucket_cmp kinds order) buckets) in
    let is_full = length kept == shard_size in
    let error = if is_full then unwrap_or (last_or None (map bucket_count kept)) 0 else 0 in
    let all_counts : sum_by bucket_count buckets ≡ total_key_count all k rows = sum_by-map bucket_count (bucket_of trims all roots k children rows) (all_keys all k rows) ∙ groups-count all k rows in
    let kept_counts : sum_by bucket_count (sorted_by_key (map (with_covered error) kept)) ≡ sum_by bucket_count kept =
    sum_by-sorted (λ a b. key_cmp (bucket_key a) (bucket_key b)) bucket_count (map (with_covered error) kept) ∙ sum_by-map bucket_count (with_covered error) kept in
    ap (λ p. tree_count (parts_at p)) (out-Keyed (sorted_by_key (map (with_covered error) kept)) error (if is_full then 1 else 0) (total_key_count all k rows - sum_by bucket_count kept))
    ∙ omega (arith, kept_counts, all_counts, sum_by-sorted (bucket_cmp kinds order) bucket_count buckets, sum_by-take-le bucket_count (sorted (bucket_cmp kinds order) buckets) shard_size)
