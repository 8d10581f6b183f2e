-- What stays the same of buckets below which something is cut: keys, counts and values, and so their order and their gaps.
use Rattle.std.specs.Prelude.{◌≡◌, refl, ℕ, ◌==◌, Bool, true, false, cond, List, [], ◌∷◌, map, filter, Some, unwrap_or, find}
use Rattle.std.specs.List.{list_all, cons_option}
use Rattle.std.specs.Ordering.{is_lt, ordering_then}
use Rattle.std.proofs.Common.{sym, ◌∙◌, ap, arith}
use Rattle.std.proofs.lemmas.Bool.{and_parts, and_from, eqb-true, le-leb}
use Rattle.agg_model.specs.declared.key.Key.{Key}
use Rattle.agg_model.specs.declared.partial.Bucket.{Bucket}
use Rattle.agg_model.specs.declared.aggregation.Bounds.{Bounds}
use Rattle.agg_model.specs.declared.aggregation.Spacing.{Spacing}
use Rattle.agg_model.specs.declared.aggregation.Kind.{Kind}
use Rattle.agg_model.specs.declared.aggregation.Order.{Order}
use Rattle.agg_model.specs.declared.aggregation.OrderBy.{OrderBy}
use Rattle.agg_model.specs.declared.aggregation.OrderBy.TheVariants as by
use Rattle.list_laws.specs.Sorting.{sorted}
use Rattle.agg_evaluation.specs.KeyOrder.{key_cmp, key_eq}
use Rattle.agg_evaluation.specs.Orders.{bucket_cmp, bucket_count, bucket_key, child_value, cmp_by, value_cmp}
use Rattle.agg_evaluation.specs.Trees.{is_ascending}
use Rattle.agg_spec.specs.Filling.{bucket_at, filled, filled_keys, frequent, number_of_key}
use Rattle.final_reduce.specs.Standing.{Cutter, cut_bucket, with_gaps}
use Rattle.final_reduce.specs.Steps.{key_numbers}
use Rattle.final_reduce.proofs.SelectLaws.{list_all-map, list_all-filter, sorted-map}

-- no bucket has a count below 0
pub all_frequent : (bs : List Bucket) → frequent 0 bs ≡ bs
all_frequent [] = refl
all_frequent (b ∷ bs) =
    ap (λ t. cond t (b ∷ frequent 0 bs) (frequent 0 bs)) (le-leb 0 (bucket_count b) (omega arith)) ∙ ap (λ cs. b ∷ cs) (all_frequent bs)

-- a histogram's buckets are those that have enough documents, with gaps
pub filled-is : (empty : Key → Bucket) (spacing : Spacing) (m : ℕ) (extended hard : Bounds) (bs : List Bucket) → filled empty spacing m extended hard bs ≡ with_gaps empty spacing m extended hard (frequent m bs)
filled-is empty spacing m extended hard bs = by_minimum (m == 0) refl
  where
    by_minimum : (t : Bool) → (m == 0) ≡ t → cond t (map (bucket_at empty bs) (filled_keys spacing extended hard (key_numbers bs))) (frequent m bs)
        ≡ cond t (map (bucket_at empty (frequent m bs)) (filled_keys spacing extended hard (key_numbers (frequent m bs)))) (frequent m bs)
    by_minimum true e =
        let all : frequent m bs ≡ bs = ap (λ n. frequent n bs) (eqb-true _ _ e) ∙ all_frequent bs in
        sym (ap (λ cs. map (bucket_at empty cs) (filled_keys spacing extended hard (key_numbers cs))) all)
    by_minimum false e = refl

below-filter : (key : Key) (q : Bucket → Bool) (bs : List Bucket) → list_all (λ later. is_lt (key_cmp key later)) (map bucket_key bs) ≡ true → list_all (λ later. is_lt (key_cmp key later)) (map bucket_key (filter q bs)) ≡ true
below-filter key q bs h =
    let less = λ (later : Key). is_lt (key_cmp key later) in
    list_all-map less bucket_key (filter q bs) ∙ list_all-filter (λ (b : Bucket). less (bucket_key b)) q bs (sym (list_all-map less bucket_key bs) ∙ h)

-- keys ascend where some buckets are left out
pub ascending-filter : (q : Bucket → Bool) (bs : List Bucket) → is_ascending (map bucket_key bs) ≡ true → is_ascending (map bucket_key (filter q bs)) ≡ true
ascending-filter q [] up = refl
ascending-filter q (b ∷ bs) up =
    let parts = and_parts (list_all (λ later. is_lt (key_cmp (bucket_key b) later)) (map bucket_key bs)) (is_ascending (map bucket_key bs)) up in
    let rest = ascending-filter q bs parts.1 in
    elim (q b) as (λ t. is_ascending (map bucket_key (cond t (b ∷ filter q bs) (filter q bs))) ≡ true) [
      | true ↦ and_from _ _ (below-filter (bucket_key b) q bs parts.0) rest
      | false ↦ rest
    ]

module _ (cs : List Cutter) where
  module _ (kinds : List Kind) (same : (i : ℕ) (b : Bucket) → child_value kinds i (cut_bucket cs b) ≡ child_value kinds i b) where
    by-kept : (descending : Bool) (by : OrderBy) (a b : Bucket) → cmp_by kinds descending by (cut_bucket cs a) (cut_bucket cs b) ≡ cmp_by kinds descending by a b
    by-kept descending by.Count a b = refl
    by-kept descending by.Key a b = refl
    by-kept descending (by.Child i) a b = λ j. value_cmp descending (same i a j) (same i b j)

    cmp-kept : (orders : List Order) (a b : Bucket) → bucket_cmp kinds orders (cut_bucket cs a) (cut_bucket cs b) ≡ bucket_cmp kinds orders a b
    cmp-kept [] a b = refl
    cmp-kept (o ∷ os) a b = λ i. ordering_then (by-kept o.descending o.by a b i) (cmp-kept os a b i)

    -- their order
    pub sorted-kept : (orders : List Order) (bs : List Bucket) → sorted (bucket_cmp kinds orders) (map (cut_bucket cs) bs) ≡ map (cut_bucket cs) (sorted (bucket_cmp kinds orders) bs)
    sorted-kept orders bs = sym (sorted-map (cut_bucket cs) (bucket_cmp kinds orders) bs) ∙ (λ i. map (cut_bucket cs) (sorted (λ a b. cmp-kept orders a b i) bs))

  module _ (empty : Key → Bucket) (fixes : (key : Key) → cut_bucket cs (empty key) ≡ empty key) where
    at-kept : (bs : List Bucket) (key : Key) → bucket_at empty (map (cut_bucket cs) bs) key ≡ cut_bucket cs (bucket_at empty bs key)
    at-kept [] key = sym (fixes key)
    at-kept (b ∷ bs) key =
        elim (key_eq key (bucket_key b)) as (λ t. unwrap_or (cond t (Some (cut_bucket cs b)) (find (λ b. key_eq key (bucket_key b)) (map (cut_bucket cs) bs))) (empty key)
        ≡ cut_bucket cs (unwrap_or (cond t (Some b) (find (λ b. key_eq key (bucket_key b)) bs)) (empty key))) [
          | true ↦ refl
          | false ↦ at-kept bs key
        ]

    each-kept : (bs : List Bucket) (keys : List Key) → map (bucket_at empty (map (cut_bucket cs) bs)) keys ≡ map (cut_bucket cs) (map (bucket_at empty bs) keys)
    each-kept bs [] = refl
    each-kept bs (key ∷ keys) = λ i. at-kept bs key i ∷ each-kept bs keys i

    numbers-kept : (bs : List Bucket) → key_numbers (map (cut_bucket cs) bs) ≡ key_numbers bs
    numbers-kept [] = refl
    numbers-kept (b ∷ bs) = ap (λ ns. cons_option (number_of_key (bucket_key b)) ns) (numbers-kept bs)

    -- their gaps
    pub gaps-kept : (spacing : Spacing) (m : ℕ) (extended hard : Bounds) (bs : List Bucket) → with_gaps empty spacing m extended hard (map (cut_bucket cs) bs) ≡ map (cut_bucket cs) (with_gaps empty spacing m extended hard bs)
    gaps-kept spacing m extended hard bs =
        elim (m == 0) as (λ t. cond t (map (bucket_at empty (map (cut_bucket cs) bs)) (filled_keys spacing extended hard (key_numbers (map (cut_bucket cs) bs)))) (map (cut_bucket cs) bs)
        ≡ map (cut_bucket cs) (cond t (map (bucket_at empty bs) (filled_keys spacing extended hard (key_numbers bs))) bs)) [
          | true ↦ ap (λ ns. map (bucket_at empty (map (cut_bucket cs) bs)) (filled_keys spacing extended hard ns)) (numbers-kept bs) ∙ each-kept bs (filled_keys spacing extended hard (key_numbers bs))
          | false ↦ refl
        ]
