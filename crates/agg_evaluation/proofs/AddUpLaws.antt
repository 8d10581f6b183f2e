-- The sizes of the groups add up to the count of all keys, and so does what a shard returns and cuts.
use Rattle.std.specs.Prelude.{◌≡◌, ℕ, ◌+◌, ◌-◌, ◌==◌, Bool, true, T, List, [], ◌∷◌, map, flat_map, take, sum_by, length, if◌then◌else◌, None, unwrap_or}
use Rattle.std.specs.List.{last_or}
use Rattle.std.specs.declared.cmp.Ordering.TheVariants.{Less, Equal, Greater}
use Rattle.std.specs.Ordering.{match_ordering}
use Rattle.std.proofs.Common.{sym, ◌∙◌, ap, subst, arith}
use Rattle.std.proofs.lemmas.List.Sums.{sum_by-cons}
use Rattle.std.proofs.lemmas.List.Concat.{length-flat_map}
use Rattle.agg_model.specs.declared.key.Key.{Key}
use Rattle.agg_model.specs.declared.partial.Bucket.{Bucket}
use Rattle.agg_model.specs.declared.aggregation.Kind.{Kind}
use Rattle.agg_model.specs.declared.aggregation.Kind.TheVariants as kind
use Rattle.agg_model.specs.declared.aggregation.Order.{Order}
use Rattle.agg_evaluation.specs.KeyOrder.{key_cmp}
use Rattle.list_laws.specs.Sorting.{sorted}
use Rattle.agg_evaluation.specs.Rows.{PlacedRow}
use Rattle.agg_evaluation.specs.Keys.{keys}
use Rattle.agg_evaluation.specs.Groups.{group, all_keys, total_key_count}
use Rattle.agg_evaluation.specs.Counters.{raised, raised_by}
use Rattle.agg_evaluation.specs.Orders.{bucket_key, bucket_count, bucket_cmp}
use Rattle.agg_evaluation.specs.Shard.{Collector, with_covered, bucket_of, trimmed_node, node_of, is_terms}
use Rattle.agg_evaluation.specs.Whole.{parts, parts_at}
use Rattle.agg_evaluation.proofs.CounterLaws.{counters-groups}
use Rattle.list_laws.proofs.Lists.{sum_by-map}
use Rattle.agg_evaluation.proofs.NodeForms.{out-Keyed}
use Rattle.list_laws.proofs.Sums.{sum_by-sorted, sum_by-take}

total : List (Key × ℕ) → ℕ
total cs = sum_by (λ c. c.1) cs

total-raised : (k : Key) (cs : List (Key × ℕ)) → total (raised k cs) ≡ total cs + 1
unfolding total
total-raised k [] = omega arith
total-raised k (c ∷ cs) =
    let old = sum_by-cons (λ (c : Key × ℕ). c.1) c cs in
    elim (key_cmp k c.0) as (λ r. total (match_ordering r ((k, 1) ∷ c ∷ cs) ((c.0, c.1 + 1) ∷ cs) (c ∷ raised k cs)) ≡ total (c ∷ cs) + 1) [
      | Less ↦ let new = sum_by-cons (λ (c : Key × ℕ). c.1) (k, 1) (c ∷ cs) in omega arith
      | Equal ↦ let new = sum_by-cons (λ (c : Key × ℕ). c.1) (c.0, c.1 + 1) cs in omega arith
      | Greater ↦ let new = sum_by-cons (λ (c : Key × ℕ). c.1) c (raised k cs) in let rest = total-raised k cs in omega arith
    ]

total-raised_by : (ks : List Key) (cs : List (Key × ℕ)) → total (raised_by ks cs) ≡ total cs + length ks
total-raised_by [] cs = omega arith
total-raised_by (k ∷ ks) cs =
    let rest = total-raised_by ks (raised k cs) in
    let first = total-raised k cs in
    omega arith

-- the sizes of the groups of all keys
pub sizes-add_up : (all : List PlacedRow) (k : Kind) (rows : List PlacedRow) → sum_by (λ key. length (group all k rows key)) (all_keys all k rows) ≡ total_key_count all k rows
unfolding total
sizes-add_up all k rows =
    let ks = flat_map (keys all k) rows in
    let made = sum_by-map (λ (c : Key × ℕ). c.1) (λ key. (key, length (group all k rows key))) (all_keys all k rows) in
    let same = ap (sum_by (λ (c : Key × ℕ). c.1)) (counters-groups all k rows) in
    let raised_all = total-raised_by ks [] in
    let counted = length-flat_map (keys all k) rows in
    omega arith

-- the buckets of all keys
counts-made : (trims : Bool) (all root_rows : List PlacedRow) (cs : List Collector) (k : Kind) (rows : List PlacedRow) → sum_by bucket_count (map (bucket_of trims all root_rows k cs rows) (all_keys all k rows)) ≡ total_key_count all k rows
counts-made trims all root_rows cs k rows = sum_by-map bucket_count (bucket_of trims all root_rows k cs rows) (all_keys all k rows) ∙ sizes-add_up all k rows

-- what is kept and what is cut
pub trimmed-adds_up : (kinds : List Kind) (size : ℕ) (order : List Order) (n : ℕ) (bs : List Bucket) → sum_by bucket_count bs ≡ n
    → sum_by bucket_count (parts (trimmed_node kinds size order n bs)).buckets + (parts (trimmed_node kinds size order n bs)).cut ≡ n
trimmed-adds_up kinds size order n bs e =
    let kept = take size (sorted (bucket_cmp kinds order) bs) in
    let is_full = length kept == size in
    let error = if is_full then unwrap_or (last_or None (map bucket_count kept)) 0 else 0 in
    let by_key = sorted (λ a b. key_cmp (bucket_key a) (bucket_key b)) (map (with_covered error) kept) in
    let form = ap parts_at (out-Keyed by_key error (if is_full then 1 else 0) (n - sum_by bucket_count kept)) in
    let buckets = ap (λ p. sum_by bucket_count p.buckets) form in
    let cut = ap (λ p. p.cut) form in
    let put = sum_by-sorted bucket_count (λ a b. key_cmp (bucket_key a) (bucket_key b)) (map (with_covered error) kept) in
    let marked = sum_by-map bucket_count (with_covered error) kept in
    let taken = sum_by-take bucket_count size (sorted (bucket_cmp kinds order) bs) in
    let ordered = sum_by-sorted bucket_count (bucket_cmp kinds order) bs in
    omega arith

-- of a terms aggregation over some rows
pub terms-add_up : (all root_rows : List PlacedRow) (cs : List Collector) (k : Kind) → is_terms k ≡ true → (rows : List PlacedRow)
    → sum_by bucket_count (parts (node_of true all root_rows cs k rows)).buckets + (parts (node_of true all root_rows cs k rows)).cut ≡ total_key_count all k rows
terms-add_up all root_rows cs (kind.Terms field size shard_size min_doc_count order include exclude missing show_error) e rows =
    let k = kind.Terms field size shard_size min_doc_count order include exclude missing show_error in
    trimmed-adds_up (map (λ c. c.kind) cs) shard_size order (total_key_count all k rows) (map (bucket_of true all root_rows k cs rows) (all_keys all k rows)) (counts-made true all root_rows cs k rows)
terms-add_up all root_rows cs (kind.Histogram field interval offset min_doc_count extended hard keyed order missing) e rows = absurd (subst T (sym e) tt)
terms-add_up all root_rows cs (kind.DateHistogram field period zone min_doc_count extended hard keyed order missing) e rows = absurd (subst T (sym e) tt)
terms-add_up all root_rows cs (kind.Filters names filters other) e rows = absurd (subst T (sym e) tt)
terms-add_up all root_rows cs (kind.Filter query) e rows = absurd (subst T (sym e) tt)
terms-add_up all root_rows cs (kind.Missing field) e rows = absurd (subst T (sym e) tt)
terms-add_up all root_rows cs kind.Global e rows = absurd (subst T (sym e) tt)
terms-add_up all root_rows cs (kind.Nested context) e rows = absurd (subst T (sym e) tt)
terms-add_up all root_rows cs (kind.ReverseNested context) e rows = absurd (subst T (sym e) tt)
terms-add_up all root_rows cs (kind.Composite sources size after) e rows = absurd (subst T (sym e) tt)
terms-add_up all root_rows cs (kind.Sum field missing) e rows = absurd (subst T (sym e) tt)
terms-add_up all root_rows cs (kind.Min field missing) e rows = absurd (subst T (sym e) tt)
terms-add_up all root_rows cs (kind.Max field missing) e rows = absurd (subst T (sym e) tt)
terms-add_up all root_rows cs (kind.Avg field missing) e rows = absurd (subst T (sym e) tt)
terms-add_up all root_rows cs (kind.ValueCount field missing) e rows = absurd (subst T (sym e) tt)
