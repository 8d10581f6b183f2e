-- A shard's count of a term against the true one: it is at most that, and short of it by at most the shard's error where the
-- shard did not return the term.
use Rattle.std.specs.Prelude.{◌≡◌, ◌≤◌, ◌<◌, refl, ℕ, zero, suc, ◌+◌, ◌-◌, ◌==◌, Bool, true, false, cond, T, ◌||◌, if◌then◌else◌, List, [], ◌∷◌, map, filter, flat_map, length, take, drop, sum_by, None, unwrap_or}
use Rattle.std.specs.List.{last_or}
use Rattle.std.proofs.Common.{sym, ◌∙◌, ap, subst, arith}
use Rattle.std.proofs.Math.Facts.{eqb_yes, yes_eqb}
use Rattle.std.proofs.lemmas.List.Sums.{sum_by-cons, sum_by-take-drop}
use Rattle.agg_model.specs.declared.key.Key.{Key}
use Rattle.agg_model.specs.declared.partial.Bucket.{Bucket}
use Rattle.agg_model.specs.declared.aggregation.Kind.{Kind}
use Rattle.agg_model.specs.declared.aggregation.Order.{Order}
use Rattle.agg_evaluation.specs.KeyOrder.{key_cmp, key_eq, has_key}
use Rattle.agg_evaluation.specs.Rows.{PlacedRow}
use Rattle.agg_evaluation.specs.Keys.{keys}
use Rattle.agg_evaluation.specs.Groups.{group, all_keys, total_key_count}
use Rattle.list_laws.specs.Sorting.{sorted}
use Rattle.agg_evaluation.specs.Orders.{bucket_cmp, bucket_key, bucket_count}
use Rattle.agg_evaluation.specs.Shard.{Collector, bucket_of, trimmed_node, sorted_by_key, with_covered}
use Rattle.agg_evaluation.specs.Trees.{is_ascending}
use Rattle.agg_evaluation.specs.Whole.{Parts, parts, parts_at}
use Rattle.list_laws.proofs.Lists.{sum_by-map}
use Rattle.agg_evaluation.proofs.KeyLists.{filter-ascending, ascending-distinct_keys, has_key-distinct_keys}
use Rattle.agg_evaluation.proofs.UnionLaws.{has_key-append}
use Rattle.agg_evaluation.proofs.NodeForms.{out-Keyed}
use Rattle.agg_evaluation.proofs.WholeLaws.{with_key}
use Rattle.list_laws.proofs.Each.{sum_by-sorted}
use Rattle.count_laws.proofs.FallingCounts.{AtMost, by_count, falls-sorted, behind_last}

pub sum_by-filter : {X : Type 0} (p : X → Bool) (f : X → ℕ) (xs : List X) → sum_by f (filter p xs) ≡ sum_by (λ x. cond (p x) (f x) 0) xs
sum_by-filter p f [] = refl
sum_by-filter p f (x ∷ xs) =
    elim (p x) as (λ c. sum_by f (cond c (x ∷ filter p xs) (filter p xs)) ≡ cond c (f x) 0 + sum_by (λ x. cond (p x) (f x) 0) xs) [
      | true ↦ omega (arith, sum_by-cons f x (filter p xs), sum_by-filter p f xs)
      | false ↦ omega (arith, sum_by-filter p f xs)
    ] ∙ sym (sum_by-cons (λ x. cond (p x) (f x) 0) x xs)

-- of an ascending list a key is picked once or not at all
one_key : (q : Key) (h : Key → ℕ) (ks : List Key) → T (is_ascending ks) → sum_by (λ k. cond (key_eq q k) (h k) 0) ks ≡ cond (has_key q ks) (h q) 0
one_key q h ks up =
    sym (sum_by-filter (key_eq q) h ks) ∙ ap (sum_by h) (filter-ascending q ks up)
    ∙ elim (has_key q ks) as (λ c. sum_by h (cond c (q ∷ []) []) ≡ cond c (h q) 0) [ true ↦ omega (arith, sum_by-cons h q []) | false ↦ refl ]

-- a key that no row has, has no group
absent_group : (all : List PlacedRow) (k : Kind) (q : Key) (rows : List PlacedRow) → has_key q (flat_map (keys all k) rows) ≡ false → length (group all k rows q) ≡ 0
absent_group all k q [] e = refl
absent_group all k q (row ∷ rows) e =
    elim (has_key q (keys all k row)) as (λ c. (c || has_key q (flat_map (keys all k) rows)) ≡ false → length (cond c (row ∷ group all k rows q) (group all k rows q)) ≡ 0) [
      | true ↦ λ no. absurd (subst T no tt)
      | false ↦ λ no. absent_group all k q rows no
    ] (sym (has_key-append q (keys all k row) (flat_map (keys all k) rows)) ∙ e)

-- no bucket has a key that is not among their keys
pub no-bucket : (q : Key) (bs : List Bucket) → has_key q (map bucket_key bs) ≡ false → with_key q bs ≡ []
no-bucket q [] e = refl
no-bucket q (b ∷ bs) e =
    elim (key_eq q (bucket_key b)) as (λ c. (c || has_key q (map bucket_key bs)) ≡ false → cond c (b ∷ with_key q bs) (with_key q bs) ≡ []) [
      | true ↦ λ f. absurd (subst T f tt)
      | false ↦ λ f. no-bucket q bs f
    ] e

-- so many of each bucket of the key
abbrev pub of_key : Key → (Bucket → ℕ) → Bucket → ℕ
of_key q f b = cond (key_eq q (bucket_key b)) (f b) 0

below_each : (q : Key) (e : ℕ) (bs : List Bucket) → AtMost e bs → sum_by (of_key q bucket_count) bs ≤ sum_by (of_key q (λ b. e)) bs
below_each q e [] h = omega arith
below_each q e (b ∷ bs) h =
    let here : of_key q bucket_count b ≤ of_key q (λ b. e) b = elim (key_eq q (bucket_key b)) as (λ c. cond c (bucket_count b) 0 ≤ cond c e 0) [ true ↦ h.0 | false ↦ omega arith ] in
    omega (arith, here, below_each q e bs h.1, sum_by-cons (of_key q bucket_count) b bs, sum_by-cons (of_key q (λ b. e)) b bs)

-- a list that is not cut at its first n has none behind them
short : (n : ℕ) (bs : List Bucket) → (length (take n bs) == n) ≡ false → drop n bs ≡ []
short zero bs e = absurd (subst T e tt)
short (suc n) [] e = refl
short (suc n) (b ∷ bs) e = short n bs (unequal (length (take n bs)) n e)
  where
    unequal : (l n : ℕ) → (suc l == suc n) ≡ false → (l == n) ≡ false
    unequal l n e =
        elim (l == n) as (λ c. (l == n) ≡ c → c ≡ false) [
          | true ↦ λ f. absurd (subst T e (yes_eqb (ap suc (eqb_yes (subst T (sym f) tt)))))
          | false ↦ λ f. refl
        ] refl

-- what a tree says of a term, against the true count
pub record Bounds (q : Key) (true_count : ℕ) (p : Parts) : Type 0 where
  pub low : sum_by (of_key q bucket_count) p.buckets ≤ true_count
  pub high : true_count + sum_by (of_key q (λ b. b.covered)) p.buckets ≤ sum_by (of_key q bucket_count) p.buckets + p.error

module _ (kinds : List Kind) (later : List Order) (shard_size : ℕ) (positive : 0 < shard_size) (trims : Bool) (all roots : List PlacedRow) (k : Kind) (children : List Collector) (rows : List PlacedRow) (q : Key) where
  abbrev buckets : List Bucket
  buckets = map (bucket_of trims all roots k children rows) (all_keys all k rows)

  abbrev ordered : List Bucket
  ordered = sorted (bucket_cmp kinds (by_count kinds later)) buckets

  abbrev kept : List Bucket
  kept = take shard_size ordered

  abbrev rest : List Bucket
  rest = drop shard_size ordered

  abbrev error : ℕ
  error = if length kept == shard_size then unwrap_or (last_or None (map bucket_count kept)) 0 else 0

  all_true : sum_by (of_key q bucket_count) buckets ≡ length (group all k rows q)
  all_true =
      sum_by-map (of_key q bucket_count) (bucket_of trims all roots k children rows) (all_keys all k rows)
      ∙ one_key q (λ q. length (group all k rows q)) (all_keys all k rows) (ascending-distinct_keys (flat_map (keys all k) rows))
      ∙ elim (has_key q (all_keys all k rows)) as (λ c. has_key q (all_keys all k rows) ≡ c → cond c (length (group all k rows q)) 0 ≡ length (group all k rows q)) [
        | true ↦ λ e. refl
        | false ↦ λ e. sym (absent_group all k q rows (sym (has_key-distinct_keys q (flat_map (keys all k) rows)) ∙ e))
      ] refl

  all_errors : sum_by (of_key q (λ b. error)) buckets ≤ error
  all_errors = subst (λ n. n ≤ error)
      (sym (sum_by-map (of_key q (λ b. error)) (bucket_of trims all roots k children rows) (all_keys all k rows)
      ∙ one_key q (λ k. error) (all_keys all k rows) (ascending-distinct_keys (flat_map (keys all k) rows))))
      (elim (has_key q (all_keys all k rows)) as (λ c. cond c error 0 ≤ error) [ true ↦ omega arith | false ↦ omega arith ])

  rest_below : AtMost error rest
  rest_below =
      elim (length kept == shard_size) as (λ c. (length kept == shard_size) ≡ c → AtMost (if c then unwrap_or (last_or None (map bucket_count kept)) 0 else 0) rest) [
        | true ↦ λ e. behind_last shard_size ordered positive (falls-sorted kinds later buckets)
        | false ↦ λ e. subst (AtMost 0) (sym (short shard_size ordered e)) tt
      ] refl

  parted : (f : Bucket → ℕ) → sum_by f kept + sum_by f rest ≡ sum_by f buckets
  parted f = sum_by-take-drop f ordered shard_size ∙ sum_by-sorted (bucket_cmp kinds (by_count kinds later)) f buckets

  in_tree : (f g : Bucket → ℕ) → ((b : Bucket) → f (with_covered error b) ≡ g b) → sum_by f (sorted_by_key (map (with_covered error) kept)) ≡ sum_by g kept
  in_tree f g same =
      sum_by-sorted (λ a b. key_cmp (bucket_key a) (bucket_key b)) f (map (with_covered error) kept)
      ∙ sum_by-map f (with_covered error) kept ∙ (λ i. sum_by (λ b. same b i) kept)

  pub trimmed_node-bounds : Bounds q (length (group all k rows q)) (parts (trimmed_node kinds shard_size (by_count kinds later) (total_key_count all k rows) buckets))
  trimmed_node-bounds =
      let counts = in_tree (of_key q bucket_count) (of_key q bucket_count) (λ b. refl) in
      let covers = in_tree (of_key q (λ b. b.covered)) (of_key q (λ b. error)) (λ b. refl) in
      let parts_are = ap parts_at (out-Keyed (sorted_by_key (map (with_covered error) kept)) error (if length kept == shard_size then 1 else 0) (total_key_count all k rows - sum_by bucket_count kept)) in
      subst (Bounds q (length (group all k rows q))) (sym parts_are) (record {
        low = omega (arith, counts, parted (of_key q bucket_count), all_true);
        high = omega (arith, counts, covers, parted (of_key q bucket_count), all_true, parted (of_key q (λ b. error)), all_errors, below_each q error rest rest_below);
      })
