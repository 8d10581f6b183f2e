-- What trees over no row cost.
use Rattle.std.specs.Prelude.{◌≡◌, refl, ℕ, zero, suc, pos, ◌+◌, ◌-◌, ◌*◌, ◌^◌, ◌<◌, ◌≤◌, List, [], ◌∷◌, length, map, min, None, sum_by}
use Rattle.std.specs.List.{range_with_len}
use Rattle.std.proofs.Common.{sym, ◌∙◌, ap, arith, ⊎_elim}
use Rattle.std.proofs.lemmas.Bool.{cases_lt}
use Rattle.std.proofs.lemmas.List.FromFn.{length-range_with_len}
use Rattle.std.proofs.lemmas.List.Sums.{sum_by-cons}
use Rattle.agg_model.specs.declared.aggregation.Agg.{Agg, out-Agg}
use Rattle.agg_model.specs.declared.aggregation.Kind.{Kind}
use Rattle.agg_model.specs.declared.aggregation.Kind.TheVariants as kind
use Rattle.agg_model.specs.declared.key.Key.TheVariants as key
use Rattle.agg_model.specs.declared.partial.Node.{Node}
use Rattle.agg_evaluation.specs.Cost.{node_cost}
use Rattle.agg_evaluation.specs.Shard.{fixed_keys}
use Rattle.agg_evaluation.specs.Whole.{by_key, from_start, a_number, empty_by, empty_node, shape_of}
use Rattle.agg_evaluation.proofs.Computing.{computing}
use Rattle.evaluation_laws.proofs.CostLaws.{bytes, cost-Keyed, cost-Fixed, cost-Number}
use Rattle.growing_tree.specs.Starting.{start_count}
use Rattle.growing_tree.proofs.Empties.{empty-level, none_at}

-- the bytes of buckets without rows
none-bytes : (children : List Node) (ns : List ℕ) → sum_by bytes (map (none_at children) (map key.Fixed ns)) ≡ length ns * (128 + sum_by node_cost children)
unfolding computing
none-bytes children [] = omega arith
none-bytes children (n ∷ ns) =
    let first = sum_by-cons bytes (none_at children (key.Fixed n)) (map (none_at children) (map key.Fixed ns)) in
    let rest = none-bytes children ns in
    omega arith

-- the tree over no row, by the number of its buckets
pub empty-cost : (a : Agg) → node_cost (empty_node a) ≡ 512 + start_count (out-Agg a).kind * (128 + sum_by node_cost (map empty_node (out-Agg a).children))
empty-cost a = at (out-Agg a).kind refl
  where
    below : List Node
    below = map empty_node (out-Agg a).children

    bucket : ℕ
    bucket = 128 + sum_by node_cost below

    fixed : (k : Kind) (ns : List ℕ) → (out-Agg a).kind ≡ k → fixed_keys k ≡ map key.Fixed ns → shape_of k ≡ from_start → node_cost (empty_node a) ≡ 512 + length ns * bucket
    fixed k ns is keys shape =
        ap node_cost (empty-level a k is ∙ (λ i. empty_by below (keys i) (shape i))) ∙ cost-Fixed (map (none_at below) (map key.Fixed ns))
        ∙ ap (λ n. 512 + n) (none-bytes below ns)

    none : 512 ≡ 512 + 0 * bucket
    none = omega arith

    keyed : (k : Kind) → (out-Agg a).kind ≡ k → shape_of k ≡ by_key → node_cost (empty_node a) ≡ 512 + 0 * bucket
    keyed k is shape = ap node_cost (empty-level a k is ∙ ap (empty_by below (fixed_keys k)) shape) ∙ cost-Keyed [] 0 0 0 ∙ none

    number : (k : Kind) → (out-Agg a).kind ≡ k → shape_of k ≡ a_number → node_cost (empty_node a) ≡ 512 + 0 * bucket
    number k is shape = ap node_cost (empty-level a k is ∙ ap (empty_by below (fixed_keys k)) shape) ∙ cost-Number (record { count = 0; sum = pos 0; least = None; greatest = None }) ∙ none

    at : (k : Kind) → (out-Agg a).kind ≡ k → node_cost (empty_node a) ≡ 512 + start_count k * bucket
    at (kind.Filters names filters other) is =
        let count = start_count (kind.Filters names filters other) in
        fixed (kind.Filters names filters other) (range_with_len 0 count) is refl refl ∙ ap (λ n. 512 + n * bucket) (length-range_with_len 0 count)
    at (kind.Filter query) is = fixed (kind.Filter query) (0 ∷ []) is refl refl
    at (kind.Missing field) is = fixed (kind.Missing field) (0 ∷ []) is refl refl
    at kind.Global is = fixed kind.Global (0 ∷ []) is refl refl
    at (kind.Nested context) is = fixed (kind.Nested context) (0 ∷ []) is refl refl
    at (kind.ReverseNested context) is = fixed (kind.ReverseNested context) (0 ∷ []) is refl refl
    at (kind.Terms field size shard_size min_doc_count order include exclude missing show_error) is = keyed _ is refl
    at (kind.Histogram field interval offset min_doc_count extended hard keyed_answer order missing) is = keyed _ is refl
    at (kind.DateHistogram field period zone min_doc_count extended hard keyed_answer order missing) is = keyed _ is refl
    at (kind.Composite sources size after) is = keyed _ is refl
    at (kind.Sum field missing) is = number _ is refl
    at (kind.Min field missing) is = number _ is refl
    at (kind.Max field missing) is = number _ is refl
    at (kind.Avg field missing) is = number _ is refl
    at (kind.ValueCount field missing) is = number _ is refl

none_times : (a : ℕ) → a * 0 ≡ 0
none_times a = omega arith

at_least : (a k : ℕ) → a ≤ a * suc k
at_least a k = let product : a * suc k ≡ a * k + a = omega arith in omega (arith, product)

times-capped : (g a b : ℕ) → min (min a g * b) g ≡ min (a * b) g
times-capped g a zero = ap (λ n. min n g) (none_times (min a g) ∙ sym (none_times a))
times-capped g a (suc k) =
    ⊎_elim
    (λ (above : g < a).
    let stops : min a g ≡ g = omega arith in
    let left = at_least g k in
    let right = at_least a k in
    ap (λ n. min (n * suc k) g) stops ∙ omega (arith, above, left, right))
    (λ (within : a ≤ g). let same : min a g ≡ a = omega arith in ap (λ n. min (n * suc k) g) same)
    (cases_lt g a)

-- a product of numbers that stop at the greatest one stops where the product does
product-capped : (g a b : ℕ) → min (min a g * min b g) g ≡ min (a * b) g
product-capped g a b =
    let turned : (x y : ℕ) → x * y ≡ y * x = λ x y. omega arith in
    times-capped g a (min b g) ∙ ap (λ n. min n g) (turned a (min b g)) ∙ times-capped g b a ∙ ap (λ n. min n g) (turned b a)

-- the same of the steps to the bytes of a tree
pub tree-capped : (count below under bucket number buckets bytes : ℕ) → under ≡ min below (2 ^ 64 - 1) → bucket ≡ min (under + 128) (2 ^ 64 - 1) → number ≡ min count (2 ^ 64 - 1)
    → buckets ≡ min (number * bucket) (2 ^ 64 - 1) → bytes ≡ min (buckets + 512) (2 ^ 64 - 1) → bytes ≡ min (512 + count * (128 + below)) (2 ^ 64 - 1)
tree-capped count below under bucket number buckets bytes under_is bucket_is number_is buckets_are bytes_are =
    let one : bucket ≡ min (128 + below) (2 ^ 64 - 1) = omega (arith, under_is, bucket_is) in
    let all : buckets ≡ min (count * (128 + below)) (2 ^ 64 - 1) = buckets_are ∙ (λ i. min (number_is i * one i) (2 ^ 64 - 1)) ∙ product-capped (2 ^ 64 - 1) count (128 + below) in
    omega (arith, all, bytes_are)
